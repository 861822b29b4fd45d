-- The total is bounded: a job finishes once, so what is paid is at most the number of jobs left times the greatest worth.
use Rattle.std.specs.Prelude.{ℕ, suc, ◌+◌, ◌*◌, ◌≤◌, ◌≡◌, Bool, true, false, cond, List, eqb, pos, nat_abs, Some}
use Rattle.std.proofs.Common.{suc-mul, inl, inr, eqb-true}
use Rattle.std.proofs.Math.Nat.{mul-le-mul_right}
use native.Mathlib.Omega.{arith}
use Rattle.std.proofs.Math.Path.{refl}
use Rattle.curve.specs.Worth.{amount}
use Rattle.job.specs.declared.Job.{Job}
use Rattle.job.specs.Job.{left_in}
use Rattle.gus.specs.declared.Part.{Part}
use Rattle.gus.specs.State.{worked_by, after}
use Rattle.gus.specs.View.{Pay}
use Rattle.invariants.specs.Sound.{Sound}
use Rattle.invariants.specs.Proper.{Proper}
use Rattle.invariants.specs.Replay.{earns}
use Rattle.invariants.specs.Left.{Ended, count_left, count-after, count-ended}

none_left : (b : Bool) (j : Job) → left_in b j ≡ 0 → Ended j
none_left true j e = inr e
none_left false j e = inl e

module _ (pay : Pay) (most : ℕ) (within : (b : Bool) (i moment : ℕ) → nat_abs (amount (pay b i moment)) ≤ most) where
  -- a part pays nothing, or its job is finished
  pub pays-once : {js : List Job} {p : Part} (moment : ℕ) → Sound js → Proper js p → nat_abs (amount (earns pay js p moment)) + count_left (after js p) * most ≤ count_left js * most
  unfolding earns
  pays-once {js} {p} moment s g = go (eqb (left_in p.rolling (worked_by js p)) 0) refl
    where
      less : count_left (after js p) * most ≤ count_left js * most
      less = mul-le-mul_right most (count-after s g)

      go : (c : Bool) → eqb (left_in p.rolling (worked_by js p)) 0 ≡ c → nat_abs (amount (cond c (pay p.rolling p.job moment) (Some (pos 0)))) + count_left (after js p) * most ≤ count_left js * most
      go true q =
          let x : suc (count_left (after js p)) * most ≤ count_left js * most = mul-le-mul_right most (count-ended s g (none_left p.rolling (worked_by js p) (eqb-true (left_in p.rolling (worked_by js p)) 0 q))) in
          omega (arith, within p.rolling p.job moment, rw suc-mul at x)
      go false q = omega (arith, less)
