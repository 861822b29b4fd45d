-- THE ROUNDS START READY: after the victims of jobs without a knot went into rollback.
use Rattle.std.specs.Prelude.{ℕ, ◌≤◌, List}
use Rattle.job.specs.declared.Job.{Job}
use Rattle.gus.specs.View.{Pay, view_of}
use Rattle.gus.specs.Victims.{victims_of, knot_of}
use Rattle.invariants.specs.Sound.{Sound}

module _ (pay : Pay) {js : List Job} (t : ℕ) (s : Sound js) (none : 32 ≤ knot_of (view_of pay js) t) where
  abbrev pub victims : List ℕ
  victims = victims_of (view_of pay js) t
