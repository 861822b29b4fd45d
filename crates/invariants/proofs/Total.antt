-- What rests on specs/Total.antt.
use Rattle.std.specs.Prelude.{ℕ, ◌+◌, ◌*◌, ◌≤◌, Bool, List, nat_abs}
use native.Mathlib.Omega.{arith}
use Rattle.laws.proofs.Signed.{abs-add}
use Rattle.curve.specs.Worth.{amount}
use Rattle.job.specs.declared.Job.{Job}
use Rattle.gus.specs.declared.Part.{Part}
use Rattle.gus.specs.State.{after, after_all}
use Rattle.gus.specs.View.{Pay}
use Rattle.invariants.specs.Sound.{Sound}
use Rattle.invariants.specs.Proper.{sound-after}
use Rattle.invariants.specs.Replay.{Replay, over, then, earns, paid}
use Rattle.invariants.specs.Left.{count_left}
use Rattle.invariants.specs.Total.{pays-once}

module _ (pay : Pay) (most : ℕ) (within : (b : Bool) (i moment : ℕ) → nat_abs (amount (pay b i moment)) ≤ most) where
  pub paid-within : {js : List Job} {ps : List Part} (t : ℕ) → Sound js → Replay js ps → nat_abs (paid pay js t ps) + count_left (after_all js ps) * most ≤ count_left js * most
  unfolding paid after_all
  paid-within t s over = omega arith
  paid-within {js} t s (then {p = p} {ps = ps} g r) = omega (arith, abs-add (amount (earns pay js p (t + p.time))) (paid pay (after js p) (t + p.time) ps), (pays-once pay most within) (t + p.time) s g, paid-within (t + p.time) (sound-after s g) r)
