-- KNOT: the lowest job on any circle all of whose members are marked never, and nobody where there is no such circle.
use Prim.Native.Nat.{ℕ, zero, suc, ◌<◌, ◌≤◌}
use Rattle.std.proofs.Common.{not-suc-le-zero, arith, sym, le-leb, eqb-true}
use Rattle.std.proofs.Math.Decide.{ℕ_discrete}
use Rattle.std.specs.Prelude.{◌≡◌, ◌⊎◌, eqb}
use Rattle.std.proofs.Math.Path.{refl}
use Rattle.std.proofs.Math.Logic.{inl, inr}
use Rattle.std.proofs.Math.Bool.{Bool, true, false}
use Rattle.std.proofs.lemmas.Bool.{lt-leb, eqb-false}
use Rattle.laws.specs.Circle.{OnCircle, Reaches}
use Rattle.job.specs.Times.{never}
use Rattle.gus.specs.Waits.{nobody}
use Rattle.gus.specs.View.{View}
use Rattle.gus.specs.Victims.{circle_of, victim_of, knot_to, knot_of}
use Rattle.invariants.specs.Circles.{circle-met, same-circle}
use Rattle.invariants.specs.Victim.{victim-is}

-- each circle whose lowest member is below n has a victim
pub record Cleared (v : View) (t n : ℕ) : Type 0 where
  pub has : (i : ℕ) → i < n → circle_of v.waits i ≡ i → (victim_of v t i).some ≡ true

-- w is the lowest member of a circle without a victim, and each circle before has one
pub record Stuck (v : View) (t n w : ℕ) : Type 0 where
  pub below : w < n
  pub lowest : circle_of v.waits w ≡ w
  pub none : (victim_of v t w).some ≡ false
  pub before : Cleared v t w

module _ (v : View) (t : ℕ) where
  and_last : (n : ℕ) → Cleared v t n → (circle_of v.waits n ≡ n → (victim_of v t n).some ≡ true) → Cleared v t (suc n)
  and_last n c here = record { has = λ i h e. elim (ℕ_discrete i n) [ yes q ↦ rw q (here (rw q at e)) | no ne ↦ c.has i (omega arith) e ] }

  looked : (n : ℕ) → n ≤ 32 → ((knot_to v t n ≡ nobody) × Cleared v t n) ⊎ Stuck v t n (knot_to v t n)
  unfolding knot_to
  looked zero l = inl (refl, record { has = λ i h. absurd (not-suc-le-zero h) })
  looked (suc n) l = elim (looked n (omega arith)) [
    | inl x ↦ rw (le-leb 32 (knot_to v t n) (omega (arith, x.0)), knot_to) (go (eqb (circle_of v.waits n) n) refl (victim_of v t n).some refl x.1)
    | inr x ↦ rw (lt-leb 32 (knot_to v t n) (omega (arith, x.below)), knot_to) (inr (record { below = omega (arith, x.below); lowest = x.lowest; none = x.none; before = x.before }))
  ]
    where
      here : Bool → Bool → ℕ
      here b c = elim b [ true ↦ elim c as (λ z. ℕ) [ true ↦ nobody | false ↦ n ] | false ↦ nobody ]

      go : (b : Bool) → eqb (circle_of v.waits n) n ≡ b → (c : Bool) → (victim_of v t n).some ≡ c → Cleared v t n → ((here b c ≡ nobody) × Cleared v t (suc n)) ⊎ Stuck v t (suc n) (here b c)
      go true p true q x = inl (refl, and_last n x (λ e. q))
      go true p false q x = inr (record { below = omega arith; lowest = eqb-true (circle_of v.waits n) n p; none = q; before = x })
      go false p c q x = inl (refl, and_last n x (λ e. absurd (eqb-false (circle_of v.waits n) n p e)))

-- job i is on a circle without a member that can be rolled back
pub record Knotted (v : View) (i : ℕ) : Type 0 where
  pub on : OnCircle v.waits 32 i
  pub all : (j : ℕ) → Reaches v.waits 32 i j → v.rollback j ≡ never

module _ (v : View) (t : ℕ) where
  pub knot : ((knot_of v t ≡ nobody) × Cleared v t 32) ⊎ Stuck v t 32 (knot_of v t)
  unfolding knot_of
  knot = looked v t 32 (omega arith)

  pub stuck-on : {w : ℕ} → Stuck v t 32 w → OnCircle v.waits 32 w
  stuck-on {w} s = circle-met v.waits w (omega (arith, s.lowest, s.below))

  -- a circle of never jobs has no victim
  pub knotted-none : {i : ℕ} → Knotted v i → (victim_of v t (circle_of v.waits i)).some ≡ true → ⊥
  knotted-none {i} k e = let c = (victim-is v t (circle_of v.waits i) e).1 in c.real (k.all _ (same-circle k.on (sym c.member)))
