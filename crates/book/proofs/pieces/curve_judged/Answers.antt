-- `book::pieces::curve_judged` meets its contract.
use Prim.Native.Nat.{ℕ}
use mathlib.Core.Path.{◌≡◌, refl}
use mathlib.Core.List.{List}
use Rattle.curve.specs.declared.Piece.{Piece}
use Rattle.cursor.specs.declared.FieldRead.{FieldRead}
use Rattle.cursor.specs.Field.{field_of}
use Rattle.cursor.specs.Step.{stands_at}
use Rattle.cursor.specs.Answer.{got}
use Rattle.book.specs.Format.{end_read, curve_read}
use Rattle.book.proofs.Stops.{by-err, end-stays}
use Rattle.book.proofs.pieces.curve_judged.Goals as goal

-- the end after a piece that was read
end-after : (s : List ℕ) (last : Piece) (read : FieldRead) → end_read s last (got read) ≡ end_read s last (stands_at read.next)
unfolding end_read field_of
end-after s last read = refl

pub returns-in_err-last : goal.returns-in_err-last
unfolding curve_read
returns-in_err-last c = rw (by-err _ c.from_residual.ensures.1) (end-stays c.args.s.now _ c.in_err-last.ensures)

pub returns : goal.returns
unfolding curve_read
returns c = let q = c.in_ok-last.ensures in rw (q.0, q.1, end-after c.args.s.now c.in_ok-last.last c.in_ok-last.read) c.end_read.ensures
