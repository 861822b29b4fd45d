use Rattle.cursor.specs.Answer.{got}
use Rattle.book.specs.Format.{record_next, no_records}
use Rattle.book.specs.Judging.{Judging, records_seen}
use Rattle.book.proofs.judge.judge_into.Given as goal

abbrev pub invariant-loop-i : goal.invariant-loop-i
invariant-loop-i l =
    Judging (record_next l.s l.head.resources) (records_seen l.initial.read.next) l.head.jobs (no_records (got l.initial.read)) (got l.read, l.holders, l.starts) l.i
