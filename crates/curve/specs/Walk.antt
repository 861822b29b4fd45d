-- A curve's pieces walked from the last back, up to the one that serves.
use Rattle.std.specs.Prelude.{◌≡◌, List, get_or, None, Some}
use Rattle.std.proofs.Math.Path.{refl}
use Rattle.std.proofs.Common.{sym, ◌∙◌, not-suc-le-zero}
use Prim.Native.Nat.{ℕ, zero, suc, ◌-◌, ◌<◌, ◌≤◌, min}
use native.Mathlib.Omega.{arith}
use borrow.Author.Tests.{lt-ltb, le-ltb, le-leb, lt-leb}
use Rattle.curve.specs.declared.Piece.{Piece}
use Rattle.curve.specs.Curve.{Curve}
use Rattle.curve.specs.Worth.{no_piece, line_at, worth_in, worth_at}

module _ (c : Curve) (t : ℕ) where
  pub worth-after : c.end < t → worth_at c t ≡ None
  unfolding worth_at
  worth-after h = rw (lt-ltb c.end t h)

  pub worth-until : t ≤ c.end → worth_at c t ≡ worth_in c.pieces t (min c.count 8)
  unfolding worth_at
  worth-until h = rw (le-ltb c.end t h)

module _ (pieces : List Piece) (t : ℕ) where
  served : (k : ℕ) → 0 < k → (get_or pieces (k - 1) no_piece).start ≤ t → worth_in pieces t k ≡ Some (line_at (get_or pieces (k - 1) no_piece) t)
  unfolding worth_in
  served zero h q = absurd (not-suc-le-zero h)
  served (suc k) h q = let e : suc k - 1 ≡ k = omega arith in rw (e, le-leb (get_or pieces k no_piece).start t (rw e at q))

  passed : (k : ℕ) → 0 < k → t < (get_or pieces (k - 1) no_piece).start → worth_in pieces t k ≡ worth_in pieces t (k - 1)
  unfolding worth_in
  passed zero h q = absurd (not-suc-le-zero h)
  passed (suc k) h q = let e : suc k - 1 ≡ k = omega arith in rw (e, lt-leb (get_or pieces k no_piece).start t (rw e at q))

  pub none : (k : ℕ) → k ≤ 0 → worth_in pieces t k ≡ None
  unfolding worth_in
  none zero h = refl
  none (suc k) h = absurd (not-suc-le-zero h)

-- The loop's whole invariant: of n pieces k are left, and they give the worth that all n give.
pub record Walking (pieces : List Piece) (t n k : ℕ) : Type 0 where
  pub within : k ≤ n
  pub same : worth_in pieces t k ≡ worth_in pieces t n

module _ {pieces : List Piece} {t n : ℕ} where
  pub walk-begin : Walking pieces t n n
  walk-begin = record { within = omega arith; same = refl }

  module _ {k : ℕ} (w : Walking pieces t n k) where
    pub walk-back : 0 < k → t < (get_or pieces (k - 1) no_piece).start → Walking pieces t n (k - 1)
    walk-back h q = record { within = omega arith; same = sym (passed pieces t k h q) ∙ w.same }

    pub walk-served : 0 < k → (get_or pieces (k - 1) no_piece).start ≤ t → Some (line_at (get_or pieces (k - 1) no_piece) t) ≡ worth_in pieces t n
    walk-served h q = sym (served pieces t k h q) ∙ w.same
