-- `planner::sheet::Sheet::put_worked` meets its contract: the own row, and then the rows of who asks.
use Rattle.planner.specs.Askers.{sheet-reworked, askers-left}
use Rattle.planner.proofs.sheet.Sheet.put_worked.Goals as goal

pub returns : goal.returns
returns c =
    let w = c.requires in
    let own = rw c.from-row.ensures at c.put_own.ensures in
    record { row = sheet-reworked w own c.relink.ensures; list = askers-left w own c.relink.ensures }
