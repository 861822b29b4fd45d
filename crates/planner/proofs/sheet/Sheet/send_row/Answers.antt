-- `planner::sheet::Sheet::send_row` meets its contract.
use Rattle.planner.specs.Putting.{sent_row}
use Rattle.planner.proofs.sheet.Sheet.send_row.Goals as goal

pub returns : goal.returns
unfolding sent_row
returns c = rw (c.link.ensures, c.put-2.ensures, c.from.ensures, c.put.ensures)
