-- `book::rules::line_ok` meets its contract.
use mathlib.Core.Path.{refl}
use mir.Syntax.{w64}
use mir.Facts.{to_z-of_z}
use borrow.Author.Rules.{rules}
use Rattle.book.specs.Rules.{line_ok}
use Rattle.book.proofs.rules.line_ok.Goals as goal

pub returns : goal.returns
unfolding line_ok
returns c = rw (c.unsigned_abs.ensures.value, to_z-of_z {w = w64} {z = c.line_at.result} (search rules), c.line_at.ensures) refl
