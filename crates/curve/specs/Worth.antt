-- What a curve is worth at a moment.
use Rattle.std.specs.Prelude.{Bool, true, false, cond, List, ℕ, zero, suc, ◌-◌, min, ltb, leb, ℤ, pos, ◌+ℤ◌, ◌*ℤ◌, get_or, Option, None, Some}
use Rattle.curve.specs.declared.Piece.{Piece}
use Rattle.curve.specs.Curve.{Curve}

-- what an array has past its end
abbrev pub no_piece : Piece
no_piece = record { start = 0; value = pos 0; slope = pos 0 }

-- "value + slope x (t - start)"; before its start a line has its first value
abbrev pub line_at : Piece → ℕ → ℤ
line_at p t = p.value +ℤ p.slope *ℤ pos (t - p.start)

-- of the first n pieces, "the last piece that starts at or before t", and none where none does
unfoldable pub worth_in : List Piece → ℕ → ℕ → Option ℤ
worth_in pieces t zero = None
worth_in pieces t (suc k) = cond (leb (get_or pieces k no_piece).start t) (Some (line_at (get_or pieces k no_piece) t)) (worth_in pieces t k)

-- "The curve must answer "none"" before the first start and after termination (R-7). "At termination itself the curve still holds"
unfoldable pub worth_at : Curve → ℕ → Option ℤ
worth_at c t = cond (ltb c.end t) None (worth_in c.pieces t (min c.count 8))

-- whether there is a worth, and how much it is; where none has to be a number it counts as 0
abbrev pub defined : Option ℤ → Bool
defined None = false
defined (Some z) = true

abbrev pub amount : Option ℤ → ℤ
amount None = pos 0
amount (Some z) = z
