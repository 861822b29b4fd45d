-- `planner::sheet::Sheet::lay` meets its contract: row by row.
use mathlib.Core.Path.{sym, ◌∙◌}
use Rattle.laws.specs.Count.{count-begin, count_next}
use Rattle.planner.specs.RowLaid.{row_laid, row-vacant}
use Rattle.planner.specs.RowRight.{row-there}
use Rattle.planner.specs.Laying.{size_small}
use Rattle.planner.proofs.sheet.Sheet.lay.Goals as goal
use Rattle.planner.proofs.sheet.Sheet.lay.Goals.{then-row-j, else-row-j}

pub loop-row-init : goal.loop-row-init
loop-row-init c = rw c.requires.blank count-begin

pub lay_row-requires : goal.lay_row-requires
lay_row-requires c =
    let st = c.requires.standing in
    row-there st (size_small _ st.accepted (λ i. (c.type_inv.bytes i).fits)) c.if-row-j.true

pub loop-row-preserved : goal.loop-row-preserved
loop-row-preserved c = count_next c.loop-row.invariant c.loop-row-test.true (
    elim c.if-row-j.branch [
      | then-row-j w ↦ w.self-is ∙ w.lay_row.ensures ∙ sym (row_laid _ _ _ _ w.if-row-j.true)
      | else-row-j w ↦ w.self-is ∙ w.lay_vacant.ensures ∙ sym (row-vacant _ _ _ _ w.if-row-j.false)
    ])
