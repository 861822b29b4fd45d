-- `book::rules::around_ok` meets its contract.
use borrow.Author.Tests.{le-leb, lt-leb}
use Rattle.book.specs.Rules.{around_ok}
use Rattle.book.proofs.rules.around_ok.Goals as goal

pub returns-then-v-most : goal.returns-then-v-most
unfolding around_ok
returns-then-v-most c = simp (le-leb _ _ c.if-v-most.true)

pub returns-else-v-most : goal.returns-else-v-most
unfolding around_ok
returns-else-v-most c = simp (lt-leb _ _ c.if-v-most.false, ← c.saturating_sub.ensures)
