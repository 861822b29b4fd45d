-- What rests on specs/Victims.antt.
use Prim.Native.Nat.{ℕ, zero, suc, ◌<◌, ◌≤◌}
use Rattle.std.proofs.Common.{not-suc-le-zero, sym, ap, ◌∙◌}
use native.Mathlib.Omega.{arith}
use Rattle.std.specs.Prelude.{◌≡◌, ◌≢◌, get_or}
use Rattle.std.proofs.Math.Path.{refl}
use Rattle.std.proofs.Math.Bool.{Bool, true, false}
use mathlib.Core.List.{◌++◌, append-nil}
use Rattle.std.proofs.Math.Dec.{eqb}
use borrow.Author.Tests.{eqb-true}
use Rattle.laws.specs.Circle.{OnCircle, Reaches}
use Rattle.job.specs.Times.{never}
use Rattle.gus.specs.View.{View}
use Rattle.gus.specs.Victims.{circle_of, victim_of, victims_to, victims_of, knot_of}
use Rattle.invariants.specs.Circles.{circle-met, circle-below, same-circle}
use Rattle.invariants.proofs.Circles.{lowest-lowest}
use Rattle.invariants.specs.Victim.{Candidate, victim-is}
use Rattle.invariants.proofs.Knot.{knot-none}
use Rattle.laws.specs.Rising.{Rising, rising-append}
use Rattle.laws.specs.Among.{Among, among-at}
use Rattle.invariants.specs.Victims.{only, victims-are, victims-have}

module _ (v : View) (t : ℕ) where
  -- WITHOUT A KNOT
  module _ (none : 32 ≤ knot_of v t) where
    victim-at : (low : ℕ) → low < 32 → circle_of v.waits low ≡ low → Candidate v low (victim_of v t low).last
    victim-at low l e = (victim-is v t low (rw e at (knot-none v t none low (circle-met v.waits low (omega arith))))).1

    key_of : (n x : ℕ) → n ≤ 32 → Among x (victims_to v t n) → circle_of v.waits x < n
    key_of n x l h = let o = (victims-are v t) n x h in omega (arith, o.below, ap (circle_of v.waits) o.is, (victim-at o.low (omega (arith, o.below)) o.lowest).member)

    -- each is on a circle, and not marked never,
    pub victims-on : (x : ℕ) → Among x (victims_of v t) → OnCircle v.waits 32 x × (v.rollback x ≢ never)
    unfolding victims_of
    victims-on x h =
        let o = (victims-are v t) 32 x h in
        (circle-met v.waits x (key_of 32 x (omega arith) h), λ e. (victim-at o.low o.below o.lowest).real (ap v.rollback (sym o.is) ∙ e))

    -- each circle has one,
    pub victims-each : (i : ℕ) → OnCircle v.waits 32 i → (x : ℕ) × Among x (victims_of v t) × Reaches v.waits 32 i x
    unfolding victims_of
    victims-each i c =
        let low : ℕ = circle_of v.waits i in
        let l : low < 32 = circle-below c in
        let e : circle_of v.waits low ≡ low = lowest-lowest c in
        ((victim_of v t low).last, (victims-have v t) 32 low l e, same-circle c (sym (victim-at low l e).member))

    -- and they are listed by the lowest member of their circle
    pub victims-rise : Rising (circle_of v.waits) (victims_of v t)
    unfolding victims_of victims_to
    victims-rise = rise 32 (omega arith)
      where
        step : (n : ℕ) → suc n ≤ 32 → Rising (circle_of v.waits) (victims_to v t n) → (b : Bool) → eqb (circle_of v.waits n) n ≡ b → Rising (circle_of v.waits) (victims_to v t n ++ only (victim_of v t n).last b)
        step n l r true e =
            let m = (victim-at n l (eqb-true (circle_of v.waits n) n e)).member in
            rising-append (victim_of v t n).last r (λ k h. omega (arith, m, key_of n (get_or (victims_to v t n) k 0) (omega arith) (among-at (victims_to v t n) k h)))
        step n l r false e = rw append-nil r

        rise : (n : ℕ) → n ≤ 32 → Rising (circle_of v.waits) (victims_to v t n)
        rise zero l = record { rises = λ a b h k. absurd (not-suc-le-zero k) }
        rise (suc n) l = step n l (rise n (omega arith)) (eqb (circle_of v.waits n) n) refl
