-- A job against the best of those before it.
use Rattle.std.specs.Prelude.{◌≡◌, Bool, ◌&&◌, ℕ, ◌+◌, ◌<◌, ◌≤◌, ◌+ℤ◌, ℤ, Option, Some}
use Rattle.std.proofs.Math.Path.{refl, sym}
use Rattle.std.proofs.Common.{ap, ◌∙◌}
use Rattle.std.proofs.Math.Bool.{true, false}
use native.Mathlib.Omega.{arith}
use borrow.Author.Tests.{eq-eqb}
use Rattle.std.proofs.Math.IntN.{pos, +ℤ_idl}
use Rattle.laws.specs.Count.{upto, upto-idle}
use Rattle.curve.specs.Worth.{defined, amount}
use Rattle.gus.specs.declared.Course.{Course}
use Rattle.gus.specs.declared.Best.{Best}
use Rattle.gus.specs.View.{View}
use Rattle.gus.specs.Course.{start, whole, earned, onward, to_end}
use Rattle.gus.specs.Choice.{Way}
use Rattle.gus.specs.Group.{grow, group_of}
use Rattle.gus.specs.Round.{better, offered, consider, no_best, best_of}
use Rattle.gus.specs.Victims.{loss_of}
use Rattle.planner.specs.Asking.{Beyond}
use Rattle.planner.specs.Following.{chain-alone}

-- a job by itself takes its time, and what it earns by running is its loss
module _ (v : View) (t i : ℕ) where
  end-in : (b : Bool) → v.rolling i ≡ b → onward v t i b (whole v b i) start ≡ to_end v t i start
  unfolding to_end
  end-in b e = sym (ap (λ (x : Bool). onward v t i x (whole v x i) start) e)

  pub alone-back : v.rolling i ≡ true → ((m : ℕ) → v.worth true i m ≡ Some (pos 0)) → record { time = v.rollback i; gain = pos 0; inside = true } ≡ to_end v t i start
  unfolding onward earned
  alone-back e z =
      let n : v.rollback i ≡ 0 + v.rollback i = omega arith in
      let all : Some (pos 0) ≡ earned v i true (v.rollback i) (t + (0 + v.rollback i)) = rw (earned, eq-eqb (v.rollback i) (v.rollback i) refl) (sym (z _)) in
      (λ k. record { time = n k; gain = pos 0 +ℤ amount (all k); inside = defined (all k) && true }) ∙ end-in true e

  pub alone-run : {c : Course} → v.rolling i ≡ false → c ≡ onward v t i false (v.run i) start → c ≡ to_end v t i start
  alone-run e q = q ∙ end-in false e

  pub loss-alone : {c : Course} → c ≡ onward v t i false (v.run i) start → record { time = c.time; gain = c.gain; inside = true } ≡ loss_of v t i
  unfolding onward earned loss_of
  loss-alone q =
      let n : 0 + v.run i ≡ v.run i = omega arith in
      let all : earned v i false (v.run i) (t + (0 + v.run i)) ≡ v.worth false i (t + v.run i) = rw (earned, eq-eqb (v.run i) (v.run i) refl, n) in
      (λ k. record { time = (q k).time; gain = (q k).gain; inside = true })
      ∙ (λ k. record { time = n k; gain = (ap (λ (w : Option ℤ). pos 0 +ℤ amount w) all ∙ +ℤ_idl (amount (v.worth false i (t + v.run i)))) k; inside = true })

-- a group is weighed where it is a candidate, and passed over where it is not
module _ (i : ℕ) (c : Course) (b : Best) where
  pub candidate : {r : Best} → c.inside ≡ true → r ≡ better i c b → r ≡ offered i c b
  unfolding offered
  candidate e q = rw (e, offered) q

  pub not-candidate : c.inside ≡ false → b ≡ offered i c b
  unfolding offered
  not-candidate e = rw (e, offered)

module _ (way : Way) (v : View) (t : ℕ) where
  -- the group of a job that waits for nobody is the job itself
  pub group-alone : {i w : ℕ} {c : Course} → i < 32 → w ≡ v.waits i → 32 ≤ w → c ≡ to_end v t i start → c ≡ (group_of way v t i).course
  unfolding group_of grow
  group-alone {i} h e q p = rw (chain-alone v.waits i h (rw e at q)) p

  module _ (i : ℕ) (b : Best) where
    pub considered : {c : Course} {r : Best} → v.left i ≡ true → c ≡ (group_of way v t i).course → r ≡ offered i c b → r ≡ consider way v t i b
    unfolding consider
    considered e p q = rw (e, consider) (rw p at q)

    pub passed_over : v.left i ≡ false → b ≡ consider way v t i b
    unfolding consider
    passed_over e = sym (ap (λ (x : Bool). elim x as (λ _. Best) [ true ↦ offered i (group_of way v t i).course b | false ↦ b ]) e)

  -- where only the first n jobs are left, the best is found among them
  pub best-among : {n : ℕ} → Beyond n v → upto (consider way v t) n no_best ≡ best_of way v t
  unfolding best_of
  best-among {n} out = sym (upto-idle (consider way v t) n 32 no_best out.few (λ i b h. sym (passed_over i b (out.left i h))))
