-- The list of victims: one of each circle that has one, listed by the lowest member of their circle.
use Prim.Native.Nat.{ℕ, zero, suc, ◌<◌, ◌≤◌}
use Rattle.std.proofs.Common.{not-suc-le-zero}
use Rattle.std.proofs.Math.Decide.{ℕ_discrete}
use native.Mathlib.Omega.{arith}
use Rattle.std.specs.Prelude.{◌≡◌}
use Rattle.std.proofs.Math.Path.{refl}
use Rattle.std.proofs.Math.Logic.{inl, inr}
use Rattle.std.proofs.Math.Bool.{Bool, true, false}
use mathlib.Core.List.{List, [], ◌∷◌}
use Rattle.std.proofs.Math.ListN.{length, length-append}
use Rattle.std.proofs.Math.Dec.{eqb}
use borrow.Author.Tests.{eq-eqb, eqb-true}
use Rattle.gus.specs.View.{View}
use Rattle.gus.specs.Victims.{circle_of, victim_of, victims_to, victims_of}
use Rattle.laws.specs.Among.{Among, among-front, among-back, among-either}

-- x where it is so
abbrev pub only : ℕ → Bool → List ℕ
only x b = elim b [ true ↦ x ∷ [] | false ↦ [] ]

only_one : (x : ℕ) (b : Bool) → length (only x b) ≤ 1
only_one x true = omega arith
only_one x false = omega arith

module _ (v : View) (t : ℕ) where
  -- x is the victim of the circle whose lowest member is low
  pub record Of (n x : ℕ) : Type 0 where
    pub low : ℕ
    pub below : low < n
    pub lowest : circle_of v.waits low ≡ low
    pub is : x ≡ (victim_of v t low).last

  pub victims-are : (n x : ℕ) → Among x (victims_to v t n) → Of n x
  unfolding victims_to
  victims-are zero x h = absurd h
  victims-are (suc n) x h = elim (among-either x (victims_to v t n) _ h) [
    | inl a ↦ let o = victims-are n x a in record { low = o.low; below = omega (arith, o.below); lowest = o.lowest; is = o.is }
    | inr a ↦ go (eqb (circle_of v.waits n) n) refl a
  ]
    where
      go : (b : Bool) → eqb (circle_of v.waits n) n ≡ b → Among x (only (victim_of v t n).last b) → Of (suc n) x
      go true e (inl q) = record { low = n; below = omega arith; lowest = eqb-true (circle_of v.waits n) n e; is = q }
      go true e (inr q) = absurd q
      go false e q = absurd q

  pub victims-have : (n low : ℕ) → low < n → circle_of v.waits low ≡ low → Among (victim_of v t low).last (victims_to v t n)
  unfolding victims_to
  victims-have zero low l e = absurd (not-suc-le-zero l)
  victims-have (suc n) low l e = elim (ℕ_discrete low n) [
    | yes q ↦ among-back (victim_of v t low).last (victims_to v t n) _ (rw (q, eq-eqb (circle_of v.waits n) n (rw q at e)) (inl refl))
    | no ne ↦ among-front (victim_of v t low).last (victims_to v t n) _ (victims-have n low (omega arith) e)
  ]

  -- at most one for each job
  pub victims-few : length (victims_of v t) ≤ 32
  unfolding victims_of victims_to
  victims-few = few 32
    where
      few : (n : ℕ) → length (victims_to v t n) ≤ n
      few zero = omega arith
      few (suc n) = let b : Bool = eqb (circle_of v.waits n) n in omega (arith, few n, only_one (victim_of v t n).last b, length-append (victims_to v t n) (only (victim_of v t n).last b))
