-- `book::rules::rollback_ok` meets its contract.
use native.Mathlib.Omega.{arith}
use borrow.Author.Tests.{le-leb, lt-leb}
use Rattle.book.specs.Rules.{rollback_ok}
use Rattle.book.proofs.rules.rollback_ok.Goals as goal

pub returns-then-v-le30000 : goal.returns-then-v-le30000
unfolding rollback_ok
returns-then-v-le30000 c = simp (le-leb c.args.v 30000 (omega arith))

pub returns-else-v-le30000 : goal.returns-else-v-le30000
unfolding rollback_ok
returns-else-v-le30000 c = simp (lt-leb c.args.v 30000 (omega arith))
