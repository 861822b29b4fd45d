-- A curve as it stands in a string of bytes (01, "The job book"), field for field, whether or not it keeps a rule: piece count 1 byte, for
-- each piece "start 4, value 4, slope 2", and termination 4.
use Rattle.std.specs.Prelude.{ℕ, ◌+◌, ◌*◌, ◌-◌, cond, List, ltb, ℤ, pos}
use Rattle.std.proofs.Math.IntN.{sub_ℕ}
use Rattle.laws.specs.Listed.{listed}
use Rattle.cursor.specs.Field.{value_at}
use Rattle.curve.specs.declared.Piece.{Piece}
use Rattle.curve.specs.Curve.{Curve}
use Rattle.curve.specs.Worth.{no_piece}

-- "signed fields in two's complement": of the numbers 0 to high, those above the half stand for the ones below 0
unfoldable pub signed_of : ℕ → ℕ → ℤ
signed_of high v = cond (ltb (high - v) v) (sub_ℕ v (high + 1)) (pos v)

abbrev pub piece_from : ℕ → ℕ → ℕ → Piece
piece_from start v slope = record { start = start; value = signed_of 4294967295 v; slope = signed_of 65535 slope }

abbrev pub piece_at : List ℕ → ℕ → Piece
piece_at s p = piece_from (value_at s p 4) (value_at s (p + 4) 4) (value_at s (p + 8) 2)

-- piece k of the curve whose count stands at p; termination stands where one more piece would
abbrev pub piece_place : ℕ → ℕ → ℕ
piece_place p k = p + 1 + k * 10

-- THE CURVE AT A PLACE
abbrev pub curve_at : List ℕ → ℕ → Curve
curve_at s p = record {
  pieces = listed 8 no_piece (λ k. piece_at s (piece_place p k)) (value_at s p 1);
  count = value_at s p 1;
  end = value_at s (piece_place p (value_at s p 1)) 4;
}

-- the byte after it
abbrev pub curve_end : List ℕ → ℕ → ℕ
curve_end s p = piece_place p (value_at s p 1) + 4
