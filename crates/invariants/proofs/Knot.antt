-- What rests on specs/Knot.antt.
use Prim.Native.Nat.{ℕ, ◌≤◌, ◌<◌}
use Rattle.std.proofs.Common.{arith, sym, ◌∙◌, true≢false}
use Rattle.std.specs.Prelude.{◌≡◌}
use Rattle.std.proofs.Math.Logic.{inl, inr}
use Rattle.std.proofs.Math.Bool.{true}
use Rattle.laws.specs.Circle.{OnCircle, Reaches, reaches-self, circle-of-reached}
use Rattle.gus.specs.View.{View}
use Rattle.gus.specs.Victims.{circle_of, victim_of, knot_of}
use Rattle.invariants.specs.Circles.{circle-below, lowest-le}
use Rattle.invariants.proofs.Circles.{lowest-same, lowest-lowest}
use Rattle.invariants.specs.Knot.{knot, Knotted, Stuck, knotted-none, stuck-on}
use Rattle.std.proofs.Math.Decide.{ℕ_discrete}
use Rattle.laws.specs.Search.{lt-or-le}
use Rattle.job.specs.Times.{never}
use Rattle.invariants.specs.Victim.{Candidate, victim-some}

module _ (v : View) (t : ℕ) where
  -- where there is no knot every circle has a victim
  pub knot-none : 32 ≤ knot_of v t → (i : ℕ) → OnCircle v.waits 32 i → (victim_of v t (circle_of v.waits i)).some ≡ true
  knot-none l i c = elim (knot v t) [ inl x ↦ x.1.has (circle_of v.waits i) (circle-below c) (lowest-lowest c) | inr x ↦ absurd (omega (arith, x.below)) ]

module _ (v : View) (t : ℕ) where
  stuck-knotted : {w : ℕ} → Stuck v t 32 w → Knotted v w
  stuck-knotted {w} s = record { on = (stuck-on v t) s; all = all }
    where
      all : (j : ℕ) → Reaches v.waits 32 w j → v.rollback j ≡ never
      all j r = elim (ℕ_discrete (v.rollback j) never) [
        | yes e ↦ e
        | no ne ↦
            let c : Candidate v w j = record { member = sym (lowest-same ((stuck-on v t) s) r) ∙ s.lowest; real = ne } in
            absurd (true≢false (sym (victim-some v t w j (circle-of-reached ((stuck-on v t) s) r).node c) ∙ s.none))
      ]

  -- THE KNOT is the lowest job of those
  pub knot-is : knot_of v t < 32 → Knotted v (knot_of v t) × ((i : ℕ) → Knotted v i → knot_of v t ≤ i)
  knot-is l = elim (knot v t) [
    | inl x ↦ absurd (omega (arith, x.0))
    | inr x ↦ (
      stuck-knotted x,
      λ i k. elim (lt-or-le (circle_of v.waits i) (knot_of v t)) [
        | inl h ↦ absurd ((knotted-none v t) k (x.before.has (circle_of v.waits i) h (lowest-lowest k.on)))
        | inr h ↦ omega (arith, lowest-le k.on (reaches-self i))
      ],
    )
  ]
