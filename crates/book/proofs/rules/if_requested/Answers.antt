-- `book::rules::if_requested` meets its contract.
use native.Mathlib.Omega.{arith}
use borrow.Author.Tests.{eq-eqb, ne_eqb}
use Rattle.book.specs.Rules.{if_requested}
use Rattle.book.proofs.rules.if_requested.Goals as goal

pub returns-then-resource-eq-NONE : goal.returns-then-resource-eq-NONE
unfolding if_requested
returns-then-resource-eq-NONE c = (simp (eq-eqb _ _ c.if-resource-eq-NONE.true), omega arith)

pub returns-else-resource-eq-NONE : goal.returns-else-resource-eq-NONE
unfolding if_requested
returns-else-resource-eq-NONE c = (simp (ne_eqb _ _ c.if-resource-eq-NONE.false), omega arith)
