-- `planner::sheet::Sheet::settle_rows` meets its contract.
use Rattle.std.proofs.Common.{◌<◌, arith, get_or-take}
use Rattle.planner.specs.Settling.{victims-long}
use Rattle.planner.specs.SettledRows.{sending-next, sending-ended}
use Rattle.planner.proofs.sheet.Sheet.settle_rows.Goals as goal

pub loop-victim-preserved : goal.loop-victim-preserved
loop-victim-preserved c =
    let more : c.loop-victim.victim-index < c.args.v.count = omega (arith, victims-long c.requires) in
    sending-next c.requires c.loop-victim.invariant more (rw (c.from.ensures, get_or-take) at c.send_row.ensures)

pub returns : goal.returns
returns c = sending-ended c.requires c.loop-victim.invariant (omega (arith, victims-long c.requires))
