-- `planner::view::View::group` meets its contract.
use mathlib.Core.Path.{refl, ◌∙◌}
use Rattle.std.specs.Prelude.{◌≡◌, ◌-◌}
use native.Mathlib.Omega.{arith}
use Rattle.laws.specs.Placed.{zeros-below}
use Rattle.planner.specs.Parting.{parting-begin, parting-next, parting-ended}
use Rattle.planner.proofs.view.View.group.Goals as goal

pub chain_of-chain-requires : goal.chain_of-chain-requires
chain_of-chain-requires c = record { job = c.requires.job; long = refl; below = zeros-below 32 32 (omega arith) }

pub loop-place-init : goal.loop-place-init
loop-place-init c =
    let items = c.enumerate-place-items.ensures in
    rw (c.into_iter-place-iterator.ensures.into_iter_gives, items.source, items.count)
    (refl, omega arith, parting-begin _ _ _ _ _ _ c.chain_of-chain.ensures.1.low c.walk-course.ensures.1)

pub loop-place-preserved : goal.loop-place-preserved
loop-place-preserved c =
    let ((same, (some, member, on)), place, more, fits) = c.in-Some.ensures.steps in
    let (end, from, parting) = c.loop-place.invariant in
    (same ∙ end, omega arith, rw (on, more, place) (parting-next _ _ _ _ _ _ (omega arith) parting (rw (member, place) at c.part_at.ensures)))

pub returns : goal.returns
returns c =
    let chain = c.chain_of-chain.ensures in
    let (end, from, parting) = c.loop-place.invariant in
    let none = c.in-None.ensures.steps in
    let n : c.loop-place.place-iterator.count ≡ 32 - c.chain_of-chain.result.from = omega arith in
    rw n at (parting-ended _ _ _ _ _ _ c.args.last (rw chain.0 at parting) (omega arith) chain.1.chain (rw chain.0 at c.walk-course.ensures.0))
