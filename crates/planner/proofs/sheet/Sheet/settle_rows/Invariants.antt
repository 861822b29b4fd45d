use Rattle.planner.specs.SettledRows.{Sending}
use Rattle.planner.proofs.sheet.Sheet.settle_rows.Given as goal

abbrev pub invariant-loop-victim : goal.invariant-loop-victim
invariant-loop-victim l = Sending l.fn.v l.initial.self l.self l.victim-index
