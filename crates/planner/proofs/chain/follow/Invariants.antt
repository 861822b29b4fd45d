use Rattle.planner.specs.Sheet.{waits_in}
use Rattle.planner.specs.Following.{Following}
use Rattle.planner.proofs.chain.follow.Given as goal

abbrev pub invariant-loop-from : goal.invariant-loop-from
invariant-loop-from l = Following (waits_in l.sheet) l.last l.members l.from l.job
