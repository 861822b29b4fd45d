-- `planner::sheet::Sheet::relink` meets its contract: those on the list who ask are linked anew and stay on it.
use mathlib.Core.Path.{ap, ◌∙◌}
use native.Mathlib.Omega.{arith}
use Rattle.planner.specs.declared.keep.Asking.{Asking}
use Rattle.planner.specs.Askers.{asker-below, relink-asking, relink-none, relink-ended}
use Rattle.planner.proofs.sheet.Sheet.relink.Goals as goal
use Rattle.planner.proofs.sheet.Sheet.relink.Goals.{then-resource-lt32, else-resource-lt32}

pub cell-resource-requires : goal.cell-resource-requires
cell-resource-requires c = omega (arith, c.from-row.ensures, asker-below _ _ c.requires c.loop-k.invariant c.loop-k-test.true)

pub relink_row-requires : goal.relink_row-requires
relink_row-requires c = omega (arith, c.from-row.ensures, asker-below _ _ c.requires c.loop-k.invariant c.loop-k-test.true)

pub loop-k-preserved : goal.loop-k-preserved
loop-k-preserved c =
    let h = c.requires in
    let inv = c.loop-k.invariant in
    let more = c.loop-k-test.true in
    let here = c.from-row.ensures in
    let asks = c.cell-resource.ensures.value in
    elim c.if-resource-lt32.branch [
      | then-resource-lt32 w ↦ relink-asking _ _ h inv more here asks w.if-resource-lt32.true (w.self-is ∙ w.relink_row.ensures) (ap (λ (x : Asking). x.list) w.asking-is) w.left-is
      | else-resource-lt32 w ↦ relink-none _ _ h inv more here asks w.if-resource-lt32.false w.self-is (ap (λ (x : Asking). x.list) w.asking-is) w.left-is
    ]

pub returns : goal.returns
returns c = relink-ended _ _ c.requires c.loop-k.invariant c.loop-k-test.false
