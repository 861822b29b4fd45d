-- `planner::sheet::Sheet::lay_wait` meets its contract.
use mathlib.Core.Path.{sym, ◌∙◌}
use native.Mathlib.Omega.{arith}
use Rattle.planner.specs.RowLaid.{waiting_none, waiting-free, waiting-held}
use Rattle.planner.proofs.sheet.Sheet.lay_wait.Goals as goal

pub returns-then-resource-ge32 : goal.returns-then-resource-ge32
returns-then-resource-ge32 c = sym (waiting_none _ _ _ _ _ _ c.if-resource-ge32.true)

pub returns-then-row-ge32 : goal.returns-then-row-ge32
returns-then-row-ge32 c = sym (waiting-free _ _ _ _ _ _ c.if-resource-ge32.false (omega (arith, c.from-row.ensures, c.if-row-ge32.true)))

pub returns : goal.returns
returns c = c.link.ensures ∙ sym (waiting-held _ _ _ _ _ _ c.if-resource-ge32.false c.from-row.ensures c.if-row-ge32.false c.held_at-held.ensures)
