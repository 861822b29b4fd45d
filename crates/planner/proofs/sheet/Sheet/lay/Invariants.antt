use Rattle.laws.specs.Count.{Counting}
use Rattle.planner.specs.RowLaid.{row_from}
use lib.ListN.{replicate}
use Rattle.planner.proofs.sheet.Sheet.lay.Given as goal

abbrev pub invariant-loop-row : goal.invariant-loop-row
invariant-loop-row l = Counting (row_from l.bytes l.j.starts l.j.holders l.j.jobs) 32 (replicate 288 0) l.self l.row
