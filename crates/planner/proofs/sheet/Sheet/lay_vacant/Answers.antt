-- `planner::sheet::Sheet::lay_vacant` meets its contract.
use Rattle.planner.specs.RowLaid.{vacant_row}
use Rattle.planner.proofs.sheet.Sheet.lay_vacant.Goals as goal

pub returns : goal.returns
unfolding vacant_row
returns c = rw (c.put-2.ensures, c.from-2.ensures, c.put.ensures, c.from.ensures)
