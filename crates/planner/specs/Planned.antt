-- The answer to a book, laid out: its refusal, or its victims and its plan.
use Rattle.std.specs.Prelude.{true, false, List, [], ℕ, ltb, pos, length}
use Rattle.laws.specs.Fill.{padded}
use Rattle.job.specs.declared.Job.{Job}
use Rattle.cursor.specs.Refusal.{KNOT}
use Rattle.book.specs.Format.{book_of}
use Rattle.gus.specs.View.{Pay, view_of}
use Rattle.gus.specs.Victims.{knot_of}
use Rattle.gus.specs.Choice.{Way, by_density}
use Rattle.gus.specs.Plan.{Answer, answer_to}
use Rattle.opening.specs.Start.{jobs_from, pay_from}
use Rattle.planner.specs.Plans.{Planned}
use Rattle.planner.specs.LaidOut.{empty_part}

unfoldable pub laid_plan : Answer → Planned
laid_plan a = record {
  number = 0;
  place = 0;
  victims = padded 32 0 a.victims;
  victimcount = length a.victims;
  parts = padded 96 empty_part a.plan.parts;
  count = length a.plan.parts;
  rounds = a.plan.rounds;
  total = a.plan.total;
  end = a.plan.end;
}

unfoldable pub refused_plan : ℕ → ℕ → Planned
refused_plan number place = record {
  number = number;
  place = place;
  victims = padded 32 0 [];
  victimcount = 0;
  parts = padded 96 empty_part [];
  count = 0;
  rounds = 0;
  total = pos 0;
  end = 0;
}

-- KNOT, whose place is a job number; otherwise the answer of at most n rounds
unfoldable pub answered_to : ℕ → Way → Pay → List Job → ℕ → Planned
answered_to n way pay js now =
    let knot = knot_of (view_of pay js) now in
    elim (ltb knot 32) [ true ↦ refused_plan KNOT knot | false ↦ laid_plan (answer_to n way pay js now) ]

-- the reader's refusals come first
unfoldable pub planned_to : ℕ → Way → List ℕ → Planned
planned_to n way s =
    let b = book_of s in
    elim (ltb 0 b.number) [ true ↦ refused_plan b.number b.place | false ↦ answered_to n way (pay_from b) (jobs_from b) b.now ]

-- THE PLAN OF A BOOK: by 01's way of choosing, and in no more rounds than jobs, since each ends one
abbrev pub planned_of : List ℕ → Planned
planned_of = planned_to 32 by_density
