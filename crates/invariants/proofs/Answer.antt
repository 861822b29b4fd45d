-- What rests on specs/Answer.antt.
use Rattle.std.specs.Prelude.{ℕ, ◌≤◌, List}
use Rattle.job.specs.declared.Job.{Job}
use Rattle.gus.specs.View.{Pay, view_of}
use Rattle.gus.specs.Choice.{Way}
use Rattle.gus.specs.Victims.{knot_of, settled}
use Rattle.gus.specs.Plan.{answer_to, answer_by}
use Rattle.invariants.specs.Sound.{Sound}
use Rattle.invariants.specs.Waiting.{Ready}
use Rattle.invariants.specs.Fair.{Fair}
use Rattle.invariants.specs.Left.{count_most}
use Rattle.invariants.specs.Rounds.{Replayed}
use Rattle.invariants.proofs.Rounds.{replayed}
use Rattle.invariants.proofs.Start.{ready-settled}
use Rattle.invariants.specs.Answer.{victims}

module _ (pay : Pay) {way : Way} {js : List Job} (now : ℕ) (f : Fair way) (s : Sound js) (none : 32 ≤ knot_of (view_of pay js) now) where
  pub answer-ready : Ready (settled js (answer_by way pay js now).victims)
  unfolding answer_to
  answer-ready = ready-settled pay now s none

  pub answer-replayed : Replayed way pay (settled js (answer_by way pay js now).victims) now (answer_by way pay js now).plan
  unfolding answer_to
  answer-replayed = replayed pay f 32 (settled js (victims pay now f s none)) now (count_most answer-ready.sound) answer-ready
