-- What rests on specs/Example.antt.
use Rattle.std.specs.Prelude.{◌≡◌, refl, true, false, [], ◌∷◌, ℕ, pos}
use Rattle.std.proofs.Common.{sym, ap, ◌∙◌, arith}
use Rattle.book.specs.Format.{book_of}
use Rattle.gus.specs.Choice.{by_density}
use Rattle.gus.specs.Group.{part_of}
use Rattle.gus.specs.Round.{stop}
use Rattle.opening.specs.Planned.{answer_from}
use Rattle.ilhuepatl.specs.Calls.{outcome_of}
use Rattle.replay.specs.Machine.{with_victims, machine_from, still_held, earnings, follow}
use Rattle.replay.specs.Sentences.{Demand3}
use Rattle.replay.proofs.Demand.{demand3}
use Rattle.replay.specs.ReadBack.{read_answer}
use Rattle.replay.proofs.Whole.{certain}
use Rattle.replay.specs.Example.{answer, book-read, five, knot-none, late, late-answer, late-knot, late-read, late_book, later, nines, not-paid, start, too_late, undone, unrefused, waiting}

-- THE HYPOTHESES CAN BE MET
case5 : Demand3 by_density (machine_from (book_of five) (answer_from (book_of five)).victims) (answer_from (book_of five)).plan
case5 = demand3 five (rw book-read) (rw book-read (omega (arith, knot-none)))

read_back : read_answer (outcome_of five nines).out ≡ record { victims = []; plan = record { parts = part_of 0 true 2 ∷ part_of 1 false 5 ∷ []; rounds = 1; total = pos 22; end = 7 } }
read_back = (certain five nines unrefused).answer.is ∙ ap answer_from book-read ∙ answer

rolls-back : follow start (part_of 0 true 2 ∷ []) ≡ record { clock = 2; paid = pos 0; unpaid = 0; jobs = undone ∷ waiting ∷ [] }
unfolding with_victims follow still_held earnings
rolls-back = refl

outside : Demand3 by_density later too_late → ⊥
outside d = let e : ◌≡◌ {A = ℕ} 1 0 = sym not-paid ∙ d.none_unpaid in omega arith

-- nothing is planned, and that keeps demand 3:
late-empty : Demand3 by_density (machine_from late_book []) (stop 0)
late-empty =
    let d = demand3 late (rw late-read) (rw late-read (omega (arith, late-knot))) in
    rw (late-read, late-answer) at d
