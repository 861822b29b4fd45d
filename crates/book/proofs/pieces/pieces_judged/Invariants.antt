use lib.ListN.{replicate}
use Rattle.curve.specs.Worth.{no_piece}
use Rattle.cursor.specs.Answer.{got}
use Rattle.book.specs.Format.{piece_next}
use Rattle.book.specs.Judging.{Judging, pieces_seen}
use Rattle.book.proofs.pieces.pieces_judged.Given as goal

abbrev pub invariant-loop : goal.invariant-loop
invariant-loop l =
    Judging (piece_next l.s) pieces_seen l.end (record { reading = got l.initial.read; count = l.end; pieces = replicate 8 no_piece; last = l.initial.last; low = l.initial.low }) (got l.read, l.last, l.low) l.counter
