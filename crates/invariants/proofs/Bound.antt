-- What rests on specs/Bound.antt.
use Rattle.std.specs.Prelude.{ℕ, ◌≤◌, List, length, ◌+◌, ◌*◌, Bool, nat_abs}
use Rattle.std.proofs.Common.{arith}
use Rattle.job.specs.declared.Job.{Job}
use Rattle.gus.specs.View.{Pay}
use Rattle.gus.specs.Choice.{Way}
use Rattle.gus.specs.Round.{Plan}
use Rattle.invariants.specs.Sound.{Sound}
use Rattle.invariants.specs.Left.{count_most, count_left}
use Rattle.invariants.specs.Burden.{burden-most}
use Rattle.invariants.specs.Rounds.{Replayed}
use Rattle.curve.specs.Worth.{amount}
use Rattle.invariants.proofs.Total.{paid-within}
use Rattle.invariants.specs.End.{Small}
use Rattle.invariants.proofs.End.{lasts-most}

module _ {way : Way} {pay : Pay} {js : List Job} {t : ℕ} {plan : Plan} (s : Sound js) (d : Replayed way pay js t plan) where
  pub rounds_few : plan.rounds ≤ 32
  rounds_few = omega (arith, d.few, count_most s)

  -- "A plan has at most 96 parts"
  pub parts_few : length plan.parts ≤ 96
  parts_few = omega (arith, d.short, burden-most s)

module _ {way : Way} {pay : Pay} {js : List Job} {t : ℕ} {plan : Plan} (s : Sound js) (d : Replayed way pay js t plan) where
  pub total-within : (most : ℕ) → ((b : Bool) (i moment : ℕ) → nat_abs (amount (pay b i moment)) ≤ most) → nat_abs plan.total ≤ count_left js * most
  total-within most within = rw d.total (omega (arith, paid-within pay most within t s d.replay))

  pub end-within : Small js → plan.end ≤ t + 32 * (3 * 65535)
  end-within m = omega (arith, d.end, lasts-most s m d.replay)
