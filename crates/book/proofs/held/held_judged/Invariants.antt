use lib.ListN.{replicate}
use Rattle.cursor.specs.Answer.{got}
use Rattle.book.specs.Format.{no_entry, entry_next}
use Rattle.book.specs.Judging.{Judging, held_seen}
use Rattle.book.proofs.held.held_judged.Given as goal

abbrev pub invariant-loop : goal.invariant-loop
invariant-loop l =
    Judging (entry_next l.s l.job l.resources l.run l.rollback) held_seen l.end (record { reading = got l.initial.read; holds = l.end; held = replicate 32 no_entry; holders = l.initial.holders }) (got l.read, l.holders) l.counter
