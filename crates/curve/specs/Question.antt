-- The question of a curve's worth, over the bytes in which the curve stands.
use Rattle.std.specs.Prelude.{ℕ, ◌+◌, ◌*◌, ◌-◌, ◌<◌, ◌≤◌, min, Bool, ◌&&◌, List, ◌≡◌, length, get_or, ℤ, Option, None}
use Rattle.std.proofs.Common.{arith, ◌∙◌}
use Rattle.std.proofs.Math.Bool.{true, false, cond}
use Rattle.std.proofs.Math.Path.{refl}
use Rattle.std.proofs.Math.Dec.{leb}
use borrow.Author.Tests.{le-leb, lt-leb}
use Rattle.laws.specs.Listed.{listed_at}
use Rattle.cursor.specs.Field.{value_at}
use Rattle.curve.specs.declared.Piece.{Piece}
use Rattle.curve.specs.Worth.{no_piece, worth_in, worth_at}
use Rattle.curve.specs.Walk.{worth-until, Walking, walk-begin, walk-back}
use Rattle.curve.specs.Layout.{piece_at, piece_place, curve_at, curve_end}

-- a curve stands at a place: it has at most 8 pieces, and the bytes reach to its end
unfoldable pub stands_at : List ℕ → ℕ → Bool
stands_at s p = leb (value_at s p 1) 8 && leb (curve_end s p) (length s)

-- THE WORTH OF THE CURVE AT A PLACE; none where no curve stands there
unfoldable pub worth_from : List ℕ → ℕ → ℕ → Option ℤ
worth_from s p t = cond (stands_at s p) (worth_at (curve_at s p) t) None

module _ (s : List ℕ) (p : ℕ) where
  -- more pieces than a curve has
  pub stands-many : (t : ℕ) → 8 < value_at s p 1 → worth_from s p t ≡ None
  unfolding worth_from stands_at
  stands-many t h = rw (lt-leb (value_at s p 1) 8 h)

  -- fewer bytes
  pub stands-cut : (t : ℕ) → length s < curve_end s p → worth_from s p t ≡ None
  unfolding worth_from stands_at
  stands-cut t h = by (leb (value_at s p 1) 8)
    where
      by : (b : Bool) → cond (b && leb (curve_end s p) (length s)) (worth_at (curve_at s p) t) None ≡ None
      by true = rw (lt-leb (curve_end s p) (length s) h)
      by false = refl

  module _ (few : value_at s p 1 ≤ 8) (h : curve_end s p ≤ length s) (t : ℕ) where
    pub stands : worth_from s p t ≡ worth_at (curve_at s p) t
    unfolding worth_from stands_at
    stands = rw (le-leb (value_at s p 1) 8 few, le-leb (curve_end s p) (length s) h)

    pub stands-until : t ≤ (curve_at s p).end → worth_from s p t ≡ worth_in (curve_at s p).pieces t (value_at s p 1)
    stands-until l = let e : min (value_at s p 1) 8 ≡ value_at s p 1 = omega arith in stands ∙ (rw e at (worth-until (curve_at s p) t l))

  -- a piece of it is what stands at its place
  pub piece-stands : value_at s p 1 ≤ 8 → (k : ℕ) → k < value_at s p 1 → get_or (curve_at s p).pieces k no_piece ≡ piece_at s (piece_place p k)
  piece-stands few k h = listed_at 8 no_piece (λ n. piece_at s (piece_place p n)) (value_at s p 1) k few h

-- The walk by places: `at` is the place after the pieces that are left.
pub record Back (pieces : List Piece) (t n first at : ℕ) : Type 0 where
  pub left : ℕ
  pub here : at ≡ first + 10 * left
  pub walking : Walking pieces t n left

module _ {pieces : List Piece} {t n first : ℕ} where
  pub back-begin : {at : ℕ} → at ≡ first + 10 * n → Back pieces t n first at
  back-begin e = record { left = n; here = e; walking = walk-begin }

  module _ {at : ℕ} (b : Back pieces t n first at) where
    pub back_some : first < at → 0 < b.left
    back_some h = omega (arith, b.here)

    pub back-next : first < at → t < (get_or pieces (b.left - 1) no_piece).start → Back pieces t n first (at - 10)
    back-next h q = record { left = b.left - 1; here = omega (arith, b.here); walking = walk-back b.walking (back_some h) q }
