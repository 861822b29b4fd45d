-- `planner::sheet::Sheet::lay_row` meets its contract.
use native.Mathlib.Omega.{arith}
use Rattle.planner.specs.RowLaid.{laid_row}
use Rattle.planner.specs.RowRight.{row_below, curve-small}
use Rattle.planner.proofs.sheet.Sheet.lay_row.Goals as goal

pub offset_bounds-j-job : goal.offset_bounds-j-job
offset_bounds-j-job c = omega (arith, row_below c.requires)

pub bounds-j-job : goal.bounds-j-job
bounds-j-job c = omega (arith, row_below c.requires)

pub overflow_add-curve : goal.overflow_add-curve
overflow_add-curve c = omega (arith, curve-small c.requires c.head_at-head.ensures)

pub overflow_mul-curve : goal.overflow_mul-curve
overflow_mul-curve c = omega (arith, curve-small c.requires c.head_at-head.ensures)

pub overflow_add-curve-2 : goal.overflow_add-curve-2
overflow_add-curve-2 c = omega (arith, curve-small c.requires c.head_at-head.ensures)

pub overflow_add-end : goal.overflow_add-end
overflow_add-end c = omega (arith, curve-small c.requires c.head_at-head.ensures)

pub overflow_add-end-2 : goal.overflow_add-end-2
overflow_add-end-2 c = omega (arith, curve-small c.requires c.head_at-head.ensures, c.value_at-pieces.ensures.1)

pub overflow_cast-end : goal.overflow_cast-end
overflow_cast-end c = omega (arith, curve-small c.requires c.head_at-head.ensures, c.value_at-pieces.ensures.1)

pub put-requires : goal.put-requires
put-requires c = row_below c.requires

pub put-requires-2 : goal.put-requires-2
put-requires-2 c = row_below c.requires

pub put_own-requires : goal.put_own-requires
put_own-requires c = row_below c.requires

pub lay_wait-requires : goal.lay_wait-requires
lay_wait-requires c = row_below c.requires

pub returns : goal.returns
unfolding laid_row
returns c =
    rw
    (c.lay_wait.ensures, c.from-resource.ensures, c.put_own.ensures, c.put-2.ensures, c.put.ensures, c.value_at-pieces.ensures.0, c.head_at-head.ensures)
