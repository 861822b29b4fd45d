-- What the victims depend on: who waits for whom, the rollback times, and of each member of a circle its loss. Nothing else of a view is asked.
use Prim.Native.Nat.{ℕ, zero, suc, ◌<◌, ◌≤◌}
use Rattle.std.proofs.Common.{arith, ap, ◌∙◌, eqb-true}
use Rattle.std.specs.Prelude.{◌≡◌, eqb, leb}
use Rattle.std.proofs.Math.Path.{refl}
use Rattle.std.proofs.Math.Bool.{Bool, true, false}
use mathlib.Core.List.{[], ◌∷◌, ◌++◌}
use Rattle.laws.specs.Count.{upto}
use Rattle.laws.specs.Circle.{OnCircle}
use Rattle.job.specs.Times.{never}
use Rattle.gus.specs.declared.Course.{Course}
use Rattle.gus.specs.declared.Best.{Best}
use Rattle.gus.specs.Waits.{nobody}
use Rattle.gus.specs.View.{View}
use Rattle.gus.specs.Round.{no_best}
use Rattle.gus.specs.Victims.{circle_of, loss_of, lesser, offer, victim_of, victims_to, victims_of, knot_to, knot_of}
use Rattle.invariants.specs.Circles.{circle-met}

-- v and w differ in nothing that a victim depends on
pub record AlikeForVictims (v w : View) (t : ℕ) : Type 0 where
  pub waits : v.waits ≡ w.waits
  pub rollback : v.rollback ≡ w.rollback
  pub loss : (i : ℕ) → OnCircle w.waits 32 i → loss_of v t i ≡ loss_of w t i

module _ {v w : View} {t : ℕ} (alike : AlikeForVictims v w t) where
  -- a loss is asked of the members of one circle alone
  same-offer : (low : ℕ) → low < 32 → (i : ℕ) (b : Best) → offer v t low i b ≡ offer w t low i b
  unfolding offer
  same-offer low l i b = (λ k. offered (eqb (circle_of (alike.waits k) i) low) (eqb (alike.rollback k i) never) (loss_of v t i)) ∙ go (eqb (circle_of w.waits i) low) refl
    where
      offered : Bool → Bool → Course → Best
      offered x y c = elim x [ true ↦ elim y as (λ z. Best) [ true ↦ b | false ↦ lesser i c b ] | false ↦ b ]

      go : (x : Bool) → eqb (circle_of w.waits i) low ≡ x → offered x (eqb (w.rollback i) never) (loss_of v t i) ≡ offered x (eqb (w.rollback i) never) (loss_of w t i)
      go true e = ap (offered true (eqb (w.rollback i) never)) (alike.loss i (circle-met w.waits i (omega (arith, eqb-true (circle_of w.waits i) low e))))
      go false e = refl

  same-victim : (low : ℕ) → low < 32 → victim_of v t low ≡ victim_of w t low
  unfolding victim_of
  same-victim low l = λ k. upto (λ i b. same-offer low l i b k) 32 no_best

  victims-to : (n : ℕ) → n ≤ 32 → victims_to v t n ≡ victims_to w t n
  unfolding victims_to
  victims-to zero l = refl
  victims-to (suc n) l = λ k. victims-to n (omega arith) k ++ elim (eqb (circle_of (alike.waits k) n) n) [ true ↦ (same-victim n l k).last ∷ [] | false ↦ [] ]

  knot-to : (n : ℕ) → n ≤ 32 → knot_to v t n ≡ knot_to w t n
  unfolding knot_to
  knot-to zero l = refl
  knot-to (suc n) l = λ k. elim (leb 32 (knot-to n (omega arith) k)) [
    | true ↦ elim (eqb (circle_of (alike.waits k) n) n) [ true ↦ elim (same-victim n l k).some [ true ↦ nobody | false ↦ n ] | false ↦ nobody ]
    | false ↦ knot-to n (omega arith) k
  ]

  pub same-victims : victims_of v t ≡ victims_of w t
  unfolding victims_of
  same-victims = victims-to 32 (omega arith)

  pub same-knot : knot_of v t ≡ knot_of w t
  unfolding knot_of
  same-knot = knot-to 32 (omega arith)
