-- `planner::view::View::list_victims` meets its contract: after job n the victims of all circles whose lowest member is below n stand there.
use mathlib.Core.Path.{sym, ◌∙◌, ◌≡◌}
use Prim.Native.Nat.{◌<◌}
use native.Mathlib.Omega.{arith}
use Rattle.std.proofs.Common.{get_or-take}
use Rattle.planner.specs.Circling.{circle-at}
use Rattle.planner.specs.Offering.{victim-below}
use Rattle.planner.specs.Listing.{listed-begin, listed-room, listed_more, listed_same, listed-among}
use Rattle.planner.proofs.view.View.list_victims.Goals as goal
use Rattle.planner.proofs.view.View.list_victims.Goals.{then-circle-low, else-circle-low}

pub loop-job-init : goal.loop-job-init
loop-job-init c = listed-begin _ _

pub note-v-requires : goal.note-v-requires
note-v-requires c = let l = c.loop-job in (listed-room _ _ l.job (omega arith) l.invariant, rw c.victim_of-b.ensures (victim-below _ _ _))

pub loop-job-preserved : goal.loop-job-preserved
loop-job-preserved c =
    let l = c.loop-job in
    let h : l.job < 32 = omega arith in
    let circle = get_or-take c.args.self.now.jobs c.args.circles.now l.job 0 (omega arith) ∙ circle-at _ _ c.requires.circles_are h in
    elim c.if-circle-low.branch [
      | then-circle-low w ↦ listed_more _ _ _ h l.invariant (sym circle ∙ w.if-circle-low.true) w.victim_of-b.ensures (w.v-is ∙ w.note-v.ensures)
      | else-circle-low w ↦ w.v-is ∙ l.invariant ∙ listed_same _ _ _ h (λ e. w.if-circle-low.false (circle ∙ e))
    ]

pub returns : goal.returns
returns c =
    let e : c.loop-job.job ≡ c.args.self.now.jobs = omega arith in
    (rw e at c.loop-job.invariant) ∙ listed-among _ _ c.requires.scanning.beyond
