-- `planner::view::View::round` meets its contract: the best group's parts where it is worth more than zero, and none otherwise.
use mathlib.Core.Path.{refl}
use Rattle.laws.specs.Fill.{padded}
use Rattle.gus.specs.Choice.{by_density}
use Rattle.planner.specs.Seen.{seen_by}
use Rattle.planner.specs.LaidOut.{laid_out}
use Rattle.planner.specs.Bounds.{small-start}
use Rattle.planner.specs.Round.{last-below, best-found, none_found}
use Rattle.planner.proofs.view.View.round.Goals as goal

pub group-requires : goal.group-requires
group-requires c =
    let a = c.args in
    record {
      seeing = c.requires.seeing;
      job = last-below by_density (seen_by a.self.now) a.self.now.moment c.scan-b.ensures c.from-last.ensures;
      small = small-start;
    }

pub returns-then-above_zero : goal.returns-then-above_zero
returns-then-above_zero c =
    let a = c.args in
    best-found by_density (seen_by a.self.now) a.self.now.moment c.scan-b.ensures c.above_zero.ensures c.if-above_zero.true c.from-last.ensures c.group.ensures

pub returns : goal.returns
unfolding laid_out padded
returns c =
    let a = c.args in
    none_found by_density (seen_by a.self.now) a.self.now.moment c.scan-b.ensures c.above_zero.ensures c.if-above_zero.false refl
