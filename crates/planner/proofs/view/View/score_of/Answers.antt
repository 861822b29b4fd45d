-- `planner::view::View::score_of` meets its contract.
use mathlib.Core.Path.{refl}
use native.Mathlib.Omega.{arith}
use Rattle.gus.specs.Group.{group_of}
use Rattle.laws.specs.Placed.{zeros-below}
use Rattle.planner.specs.Considering.{group-alone}
use Rattle.planner.proofs.view.View.score_of.Goals as goal

pub returns-then-cell-ge32 : goal.returns-then-cell-ge32
returns-then-cell-ge32 c = group-alone _ _ _ c.requires.job c.cell.ensures.value c.if-cell-ge32.true c.alone.ensures

pub chain_of-chain-requires : goal.chain_of-chain-requires
chain_of-chain-requires c = record { job = c.requires.job; long = refl; below = zeros-below 32 32 (omega arith) }

pub returns : goal.returns
unfolding group_of
returns c =
    let chain = c.chain_of-chain.ensures in
    rw chain.1.chain at (rw chain.0 at c.walk.ensures.0)
