-- The worth of a curve that the book's rules allow is in range at every moment.
use Rattle.std.specs.Prelude.{cond, ltb, ℤ, pos, negsuc, neg_ℤ, nat_abs, ◌+ℤ◌, ◌*ℤ◌, get_or}
use Prim.Native.Nat.{ℕ, suc, ◌*◌, ◌-◌, ◌<◌, ◌≤◌}
use Rattle.std.proofs.Common.{mul-le-mul_left, arith}
use Rattle.laws.proofs.Signed.{parts}
use Rattle.curve.specs.declared.Piece.{Piece}
use Rattle.curve.specs.Curve.{Curve}
use Rattle.curve.specs.Worth.{no_piece, line_at}

-- "Curve values: -1,000,000 to 1,000,000"
abbrev pub InRange : ℤ → Type 0
InRange z = nat_abs z ≤ 1000000

abbrev pub piece_of : Curve → ℕ → Piece
piece_of c i = get_or c.pieces i no_piece

-- "A piece ends 1 ms before the next start, the last at termination"
abbrev pub end_of : Curve → ℕ → ℕ
end_of c i = cond (ltb (suc i) c.count) ((piece_of c (suc i)).start - 1) c.end

-- the rules of 01, "The job book", for a curve
pub record Allowed (c : Curve) : Type 0 where
  pub some : 1 ≤ c.count
  pub few : c.count ≤ 8
  pub rising : (i : ℕ) → suc i < c.count → (piece_of c i).start < (piece_of c (suc i)).start
  pub lasting : (piece_of c (c.count - 1)).start ≤ c.end
  pub at_start : (i : ℕ) → i < c.count → InRange (piece_of c i).value
  pub at_end : (i : ℕ) → i < c.count → InRange (line_at (piece_of c i) (end_of c i))

-- what lies between v and v + y, going up or going down
rise : (v : ℤ) (x y : ℕ) → x ≤ y → InRange v → InRange (v +ℤ pos y) → InRange (v +ℤ pos x)
rise v x y h a b = simp parts (omega (arith, simp parts at a, simp parts at b))

fall : (v : ℤ) (x y : ℕ) → x ≤ y → InRange v → InRange (v +ℤ neg_ℤ (pos y)) → InRange (v +ℤ neg_ℤ (pos x))
fall v x y h a b = simp parts (omega (arith, simp parts at a, simp parts at b))

-- a line is between its ends
between : (v s : ℤ) (d l : ℕ) → d ≤ l → InRange v → InRange (v +ℤ s *ℤ pos l) → InRange (v +ℤ s *ℤ pos d)
between v (pos a) d l h = rise v (a * d) (a * l) (mul-le-mul_left a h)
between v (negsuc a) d l h = fall v (suc a * d) (suc a * l) (mul-le-mul_left (suc a) h)

module _ {c : Curve} (a : Allowed c) (t : ℕ) where
  pub line-within : (i : ℕ) → i < c.count → t ≤ end_of c i → InRange (line_at (piece_of c i) t)
  line-within i l h = between (piece_of c i).value (piece_of c i).slope (t - (piece_of c i).start) (end_of c i - (piece_of c i).start) (omega arith) (a.at_start i l) (a.at_end i l)
