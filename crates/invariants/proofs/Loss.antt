-- What rests on specs/Loss.antt.
use Rattle.std.specs.Prelude.{ℕ, List}
use Rattle.job.specs.declared.Job.{Job}
use Rattle.gus.specs.View.{Pay}
use Rattle.gus.specs.Victims.{settled}
use Rattle.invariants.specs.Sound.{Sound}
use Rattle.invariants.proofs.CircleModes.{circle-normal}
use Rattle.invariants.specs.Loss.{LossesAgree, loss_by_mode}

pub losses-agree : {js : List Job} → Sound js → (is : List ℕ) (pay : Pay) → LossesAgree pay (settled js is)
unfolding loss_by_mode
losses-agree s is pay = record { same = λ t i c. rw (circle-normal s is i c, loss_by_mode) }
