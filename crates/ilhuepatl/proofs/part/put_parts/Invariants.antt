use Rattle.std.proofs.Common.{length}
use Rattle.ilhuepatl.specs.Answer.{parts_bytes}
use Rattle.laws.specs.Stores.{Storing}
use Rattle.ilhuepatl.proofs.part.put_parts.Given as goal

-- behind the count the bytes of the first i parts are stored
abbrev pub invariant-loop-i : goal.invariant-loop-i
invariant-loop-i l = Storing parts_bytes l.initial.out 1 l.parts (length l.parts) l.i l.out
