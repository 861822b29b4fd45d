-- `planner::sheet::Sheet::relink_row` meets its contract.
use mathlib.Core.Path.{sym, ◌∙◌}
use Rattle.std.proofs.Common.{◌+◌, ◌*◌, arith}
use Rattle.laws.specs.Inside.{inside}
use Rattle.planner.specs.Putting.{row-taken, row-given-up, row-unmoved}
use Rattle.planner.proofs.sheet.Sheet.relink_row.Goals as goal

pub returns-then-h-gt0 : goal.returns-then-h-gt0
returns-then-h-gt0 c = c.link.ensures ∙ sym (row-taken _ _ _ _ c.if-h-gt0.true)

pub returns-then-cell-from : goal.returns-then-cell-from
returns-then-cell-from c =
    let waits = inside c.args.self.now (9 * c.args.row + 4) 0 255 (omega arith) ∙ sym c.cell.ensures.value in
    c.link-then-cell-from.ensures ∙ sym (row-given-up _ _ _ _ c.if-h-gt0.false (waits ∙ c.if-cell-from.true ∙ c.from.ensures))

pub returns-else-cell-from : goal.returns-else-cell-from
returns-else-cell-from c =
    let waits = inside c.args.self.now (9 * c.args.row + 4) 0 255 (omega arith) ∙ sym c.cell.ensures.value in
    sym (row-unmoved _ _ _ _ c.if-h-gt0.false (λ e. c.if-cell-from.false (sym waits ∙ e ∙ sym c.from.ensures)))
