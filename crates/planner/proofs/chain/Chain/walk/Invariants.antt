use Prim.Native.Nat.{◌-◌}
use Rattle.gus.specs.Choice.{by_density}
use Rattle.planner.specs.Seen.{seen_by}
use Rattle.planner.specs.Growing.{Growing}
use Rattle.planner.proofs.chain.Chain.walk.Given as goal

abbrev pub invariant-loop-k : goal.invariant-loop-k
invariant-loop-k l = Growing by_density (seen_by l.self.view.now) l.self.view.now.moment l.self.members.now l.self.from l.modes l.c (l.k - l.self.from) l.k
