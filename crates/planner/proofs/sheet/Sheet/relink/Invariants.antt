use Rattle.planner.specs.Askers.{Relinking}
use Rattle.planner.proofs.sheet.Sheet.relink.Given as goal

abbrev pub invariant-loop-k : goal.invariant-loop-k
invariant-loop-k l = Relinking l.job l.held l.initial.asking.count l.initial.self l.initial.asking.list l.self l.asking.list l.left l.k
