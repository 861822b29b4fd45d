-- DEMAND 3 of the whole answer, from sound jobs without a knot, for any fair way of choosing a mode.
use Rattle.std.specs.Prelude.{ℕ, ◌≤◌, List}
use Rattle.job.specs.declared.Job.{Job}
use Rattle.gus.specs.View.{Pay, view_of}
use Rattle.gus.specs.Choice.{Way}
use Rattle.gus.specs.Victims.{knot_of}
use Rattle.gus.specs.Plan.{answer_by}
use Rattle.invariants.specs.Sound.{Sound}
use Rattle.invariants.specs.Fair.{Fair}

module _ (pay : Pay) {way : Way} {js : List Job} (now : ℕ) (f : Fair way) (s : Sound js) (none : 32 ≤ knot_of (view_of pay js) now) where
  abbrev pub victims : List ℕ
  victims = (answer_by way pay js now).victims
