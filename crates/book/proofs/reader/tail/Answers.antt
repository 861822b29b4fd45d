-- `book::reader::tail` meets its contract.
use native.Mathlib.Omega.{arith}
use mathlib.Core.Path.{refl}
use Rattle.std.specs.Prelude.{eqb, length}
use Rattle.cursor.specs.Refusal.{TAIL}
use Rattle.cursor.proofs.Says.{rule-says}
use Rattle.book.specs.Format.{tail_read}
use Rattle.book.proofs.reader.tail.Goals as goal

pub returns : goal.returns
unfolding tail_read
returns c = let f = c.args.last in rule-says (eqb f.next (length c.args.s.now)) TAIL f.next f (omega arith) refl c.rule.ensures
