use Rattle.std.specs.Prelude.{◌+◌}
use Rattle.planner.specs.Seen.{seen_by}
use Rattle.planner.specs.Staying.{Staying}
use Rattle.planner.proofs.chain.Chain.stays_inside.Given as goal

abbrev pub invariant-loop-i : goal.invariant-loop-i
invariant-loop-i l = Staying (seen_by l.self.view.now) l.self.view.now.moment l.self.members.now (l.k + 1) l.before l.time l.i
