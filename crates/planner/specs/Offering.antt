-- The choice of a circle's victim, job by job.
use Rattle.std.specs.Prelude.{◌≡◌, Bool}
use Rattle.std.proofs.Math.Path.{sym, ap}
use Rattle.std.proofs.Common.{◌∙◌}
use Rattle.std.proofs.Math.Bool.{true, false}
use Prim.Native.Nat.{ℕ, zero, suc, ◌<◌, ◌≤◌}
use native.Mathlib.Omega.{arith}
use borrow.Author.Tests.{eq-eqb, ne_eqb}
use Rattle.std.proofs.Math.Dec.{eqb}
use Rattle.laws.specs.Count.{upto, upto-idle}
use Rattle.job.specs.Times.{never}
use Rattle.gus.specs.declared.Course.{Course}
use Rattle.gus.specs.declared.Best.{Best}
use Rattle.gus.specs.View.{View}
use Rattle.gus.specs.Waits.{nobody}
use Rattle.gus.specs.Course.{denser}
use Rattle.gus.specs.Round.{no_best}
use Rattle.gus.specs.Victims.{circle_of, loss_of, lesser, offer, victim_of}
use Rattle.planner.specs.Circling.{circle-none}
use Rattle.planner.specs.Picking.{taken}
use Rattle.planner.specs.Asking.{Beyond}

module _ (v : View) (t low job : ℕ) (b : Best) (circle : ℕ) (e : circle ≡ circle_of v.waits job) where
  on : circle ≡ low → eqb (circle_of v.waits job) low ≡ true
  on p = eq-eqb _ _ (sym e ∙ p)

  -- a job of no circle or another is passed over
  pub offer-other : (circle ≡ low → ⊥) → b ≡ offer v t low job b
  unfolding offer
  offer-other n =
      let off : eqb (circle_of v.waits job) low ≡ false = ne_eqb _ _ (λ p. n (e ∙ p)) in
      sym (λ k. elim (off k) [ true ↦ elim (eqb (v.rollback job) never) [ true ↦ b | false ↦ lesser job (loss_of v t job) b ] | false ↦ b ])

  pub offer-never : circle ≡ low → v.rollback job ≡ never → b ≡ offer v t low job b
  unfolding offer
  offer-never p q = sym (λ k. elim (on p k) [ true ↦ elim (eq-eqb _ _ q k) [ true ↦ b | false ↦ lesser job (loss_of v t job) b ] | false ↦ b ])

  pub offer-made : {c : Course} {r : Best} → circle ≡ low → (v.rollback job ≡ never → ⊥) → c ≡ loss_of v t job → r ≡ lesser job c b → r ≡ offer v t low job b
  unfolding offer
  offer-made p n d q =
      q ∙ ap (λ (x : Course). lesser job x b) d ∙ sym (λ k. elim (on p k) [ true ↦ elim (ne_eqb _ _ n k) [ true ↦ b | false ↦ lesser job (loss_of v t job) b ] | false ↦ b ])

-- a victim is a job
module _ (v : View) (t low : ℕ) where
  below-lesser : (job : ℕ) (c : Course) (b : Best) → job < 32 → b.last < 32 → (lesser job c b).last < 32
  unfolding lesser
  below-lesser job c b h l = by b.some (denser b.course c)
    where
      by : (x y : Bool) → (elim x as (λ _. Best) [ true ↦ elim y [ true ↦ taken job c | false ↦ b ] | false ↦ taken job c ]).last < 32
      by true true = h
      by true false = l
      by false y = h

  below-offer : (job : ℕ) (b : Best) → job < 32 → b.last < 32 → (offer v t low job b).last < 32
  unfolding offer
  below-offer job b h l = by (eqb (circle_of v.waits job) low) (eqb (v.rollback job) never)
    where
      by : (x y : Bool) → (elim x as (λ _. Best) [ true ↦ elim y [ true ↦ b | false ↦ lesser job (loss_of v t job) b ] | false ↦ b ]).last < 32
      by true true = l
      by true false = below-lesser job (loss_of v t job) b h l
      by false y = l

  below-to : (n : ℕ) → n ≤ 32 → (upto (offer v t low) n no_best).last < 32
  unfolding upto
  below-to zero h = omega arith
  below-to (suc n) h = below-offer n (upto (offer v t low) n no_best) h (below-to n (omega arith))

  pub victim-below : (victim_of v t low).last < 32
  unfolding victim_of
  victim-below = below-to 32 (omega arith)

  -- and where only the first n jobs wait, it is found among them
  pub victim-among : {n : ℕ} → low < 32 → Beyond n v → upto (offer v t low) n no_best ≡ victim_of v t low
  unfolding victim_of
  victim-among {n} h out = sym (upto-idle (offer v t low) n 32 no_best out.few idle)
    where
      apart : nobody ≡ low → low < 32 → ⊥
      apart e l = omega arith

      idle : (job : ℕ) (b : Best) → n ≤ job → offer v t low job b ≡ b
      idle job b l = sym (offer-other v t low job b nobody (sym (circle-none v.waits job (out.waits job l))) (λ e. apart e h))
