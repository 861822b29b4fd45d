-- What rests on specs/Bound.antt.
use Rattle.std.specs.Prelude.{cond, ◌≡◌, ltb, leb, ℤ, Option, None, Some}
use Prim.Native.Nat.{ℕ, zero, suc, zero-le, ◌-◌, ◌<◌, ◌≤◌, min}
use Rattle.std.proofs.Common.{arith, lt-ltb, le-ltb, ltb-false, leb-false}
use Rattle.cursor.specs.Outcome.{by-test}
use Rattle.curve.specs.Curve.{Curve}
use Rattle.curve.specs.Worth.{line_at, worth_in, worth_at, amount}
use Rattle.curve.specs.Bound.{Allowed, InRange, end_of, line-within, piece_of}

module _ {c : Curve} (a : Allowed c) (t : ℕ) where
  -- a piece that starts after t leaves it to what came before
  either : (i : ℕ) → i < c.count → t ≤ end_of c i → (w : Option ℤ) → (t < (piece_of c i).start → InRange (amount w)) → InRange (amount (cond (leb (piece_of c i).start t) (Some (line_at (piece_of c i) t)) w))
  either i l h w g = by-test (leb (piece_of c i).start t) (Some (line_at (piece_of c i) t)) w (λ (x : Option ℤ). InRange (amount x)) (λ y. (line-within a t) i l h) (λ n. g (leb-false (piece_of c i).start t n))

  pieces-within : (i : ℕ) → i < c.count → t ≤ end_of c i → InRange (amount (worth_in c.pieces t (suc i)))
  unfolding worth_in
  pieces-within zero l h = either zero l h None (λ q. zero-le)
  pieces-within (suc i) l h = either (suc i) l h (worth_in c.pieces t (suc i)) (λ q. pieces-within i (omega arith) (rw (lt-ltb (suc i) c.count l) (omega arith)))

  -- the last piece ends at termination
  all-within : t ≤ c.end → InRange (amount (worth_in c.pieces t (min c.count 8)))
  all-within h =
      let all : min c.count 8 ≡ suc (c.count - 1) = omega (arith, a.some, a.few) in
      let last : c.count ≤ suc (c.count - 1) = omega arith in
      rw all (pieces-within (c.count - 1) (omega (arith, a.some)) (rw (le-ltb (suc (c.count - 1)) c.count last) h))

  pub worth-within : InRange (amount (worth_at c t))
  unfolding worth_at
  worth-within = by-test (ltb c.end t) None (worth_in c.pieces t (min c.count 8)) (λ (x : Option ℤ). InRange (amount x)) (λ y. zero-le) (λ n. all-within (ltb-false c.end t n))
