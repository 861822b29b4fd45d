-- `planner::sheet::Sheet::link` meets its contract.
use Rattle.planner.specs.Putting.{linked}
use Rattle.planner.proofs.sheet.Sheet.link.Goals as goal

pub returns : goal.returns
unfolding linked
returns c = rw (c.put-3.ensures, c.from-3.ensures, c.put-2.ensures, c.from-2.ensures, c.put.ensures, c.from.ensures)
