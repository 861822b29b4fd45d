-- `planner::scan::offer_group` meets its contract.
use Rattle.planner.specs.Picking.{better-made}
use Rattle.planner.specs.Considering.{candidate, not-candidate}
use Rattle.planner.proofs.scan.offer_group.Goals as goal

pub returns-then-c : goal.returns-then-c
returns-then-c c = candidate _ _ _ c.if-c.true (better-made _ _ _ c.beats-wins.ensures c.pick.ensures)

pub returns : goal.returns
returns c = not-candidate _ _ _ c.if-c.false
