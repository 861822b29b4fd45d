use Rattle.std.proofs.Common.{◌-◌}
use Rattle.planner.specs.Sheet.{waits_in}
use Rattle.planner.specs.Circling.{Circling}
use Rattle.planner.proofs.sheet.Sheet.circle_of.Given as goal

abbrev pub invariant-loop : goal.invariant-loop
invariant-loop l = Circling (waits_in l.self) l.home l.low l.job (32 - l.counter)
