-- A curve as the definitions have it. The code makes none: it asks a curve where it stands in the book.
use Rattle.std.specs.Prelude.{ℕ, List}
use Rattle.curve.specs.declared.Piece.{Piece}

-- pieces 0 .. count count, at most 8 of them; `end` is the termination
pub record Curve : Type 0 where
  pub pieces : List Piece
  pub count : ℕ
  pub end : ℕ
