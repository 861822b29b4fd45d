use Rattle.std.proofs.Common.{◌+◌, ◌*◌, ◌≤◌, drop}
use Rattle.text.specs.Lines.{part_lines}
use Rattle.text.proofs.Writer.{Goes}
use Rattle.text.proofs.word.Writer.parts.Given as goal

abbrev pub invariant-loop-p : goal.invariant-loop-p
invariant-loop-p l = record {
  soon : l.start ≤ l.first + 65535 * l.p-index;
  goes : Goes l.initial.self l.self (part_lines l.first l.parts) (part_lines l.start (drop l.p-index l.parts));
}
