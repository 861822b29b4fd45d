-- The book of case 5: it is accepted and has no knot, so demand 3 holds of it. What is read of its answer, the machine on it, and on parts
-- that make no sense; a late job that can't be rolled back; and the empty plan of case 2.
use Rattle.std.specs.Prelude.{◌≡◌, refl, true, false, List, [], ◌∷◌, ℕ, pos, nat_abs, replicate}
use Rattle.std.proofs.Common.{ap, true≢false, arith}
use Rattle.laws.specs.Count.{upto}
use Rattle.curve.specs.Curve.{Curve}
use Rattle.curve.specs.Worth.{no_piece, worth_in, worth_at}
use Rattle.curve.specs.Density.{denser_than}
use Rattle.job.specs.declared.Request.{Request}
use Rattle.job.specs.Job.{granted, ran, rolled_back}
use Rattle.book.specs.declared.Entry.{Entry}
use Rattle.book.specs.Read.{Book}
use Rattle.cursor.specs.Field.{field_of, rule_of, read_at, judged, value_at}
use Rattle.curve.specs.Layout.{signed_of}
use Rattle.book.specs.Rules.{rollback_ok, request_ok, if_requested, least_rollback, mode_ok, around_ok, line_ok}
use Rattle.cursor.specs.Header.{header_of}
use Rattle.book.specs.Format.{no_entry, empty_record, empty_span, book_of, refused_book, accepted_book, records_read, no_records, record_next, record_read, tail_read, rollback_read, request_read, requested_resource, requested_rollback, held_read, entry_next, entry_read, held_resource, unheld_read, curve_read, pieces_read, piece_next, piece_read, start_read, signed_read, end_read}
use Rattle.gus.specs.State.{after_all}
use Rattle.gus.specs.Waits.{holder_from, chain_to, chain_of}
use Rattle.gus.specs.Course.{earned, onward, to_free, to_end, denser}
use Rattle.gus.specs.Choice.{reckon, preferred, by_density}
use Rattle.gus.specs.Group.{part_of, grow, group_of}
use Rattle.gus.specs.Round.{better, offered, consider, best_of, Plan, stop, rounds}
use Rattle.gus.specs.Victims.{circle_from, circle_of, loss_of, lesser, offer, victim_of, victims_to, victims_of, knot_to, knot_of, settled}
use Rattle.gus.specs.Plan.{answer_to}
use Rattle.opening.specs.Start.{held_from, job_from}
use Rattle.opening.specs.Planned.{view_from, answer_from}
use Rattle.ilhuepatl.specs.Verdict.{Verdict}
use Rattle.ilhuepatl.specs.Calls.{outcome_of}
use Rattle.replay.specs.Machine.{MachineJob, Machine, nothing, with_victims, machine_from, with_request, still_held, earnings, follow}
use Rattle.replay.specs.View.{lists, hold_on, holder_from as machine_holder, view_of_machine}
use Rattle.replay.specs.Moments.{done_by}
use Rattle.replay.specs.Sentences.{Demand3}
use Rattle.replay.specs.Refuses.{Given, small, reader, knot, none, given_out}

pub five : List ℕ
five =
    0 ∷ 66 ∷ 1 ∷ 2 ∷ 1 ∷ 0 ∷ 0 ∷ 0 ∷ 0
    ∷ 0 ∷ 0 ∷ 6 ∷ 0 ∷ 2 ∷ 255 ∷ 0 ∷ 0 ∷ 0 ∷ 0 ∷ 1 ∷ 0 ∷ 0 ∷ 6 ∷ 0 ∷ 2 ∷ 1 ∷ 0 ∷ 0 ∷ 0 ∷ 0 ∷ 0 ∷ 0 ∷ 0 ∷ 0 ∷ 0 ∷ 0 ∷ 0 ∷ 0 ∷ 0 ∷ 100
    ∷ 0 ∷ 0 ∷ 5 ∷ 0 ∷ 1 ∷ 0 ∷ 0 ∷ 5 ∷ 0 ∷ 1 ∷ 0 ∷ 1 ∷ 0 ∷ 0 ∷ 0 ∷ 0 ∷ 0 ∷ 0 ∷ 0 ∷ 22 ∷ 0 ∷ 0 ∷ 0 ∷ 0 ∷ 0 ∷ 100
    ∷ []

-- worth n up to 100
abbrev flat : ℕ → Curve
flat n = record { pieces = record { start = 0; value = pos n; slope = pos 0 } ∷ replicate 7 no_piece; count = 1; end = 100 }

abbrev r0 : ℕ → ℕ → Entry
r0 hold rollback = record { resource = 0; hold = hold; rollback = rollback }

abbrev asks_r0 : Request
asks_r0 = record { resource = 0; hold = 5; rollback = 1 }

abbrev book : Book
book = record {
  number = 0;
  place = 0;
  now = 0;
  jobs = 2;
  resources = 1;
  records =
      record { mode = 0; run = 6; rollback = 2; request = nothing; holds = 1; held = r0 6 2 ∷ replicate 31 no_entry; curve = flat 0 }
      ∷ record { mode = 0; run = 5; rollback = 1; request = asks_r0; holds = 0; held = replicate 32 no_entry; curve = flat 22 }
      ∷ replicate 30 empty_record;
  holders = 0 ∷ replicate 31 255;
  spans = record { start = 9; end = 40 } ∷ record { start = 40; end = 66 } ∷ replicate 30 empty_span;
}

pub book-read : book_of five ≡ book
unfolding five book_of refused_book accepted_book header_of records_read no_records record_next record_read tail_read rollback_read request_read requested_resource requested_rollback held_read entry_next entry_read held_resource unheld_read curve_read pieces_read piece_next piece_read start_read signed_read end_read field_of rule_of read_at judged value_at upto rollback_ok request_ok if_requested least_rollback mode_ok signed_of around_ok line_ok
book-read = refl

pub knot-none : knot_of (view_from book) 0 ≡ 255
unfolding held_from job_from knot_of knot_to victim_of offer lesser loss_of circle_of circle_from denser denser_than holder_from upto
knot-none = refl

pub answer : answer_from book ≡ record { victims = []; plan = record { parts = part_of 0 true 2 ∷ part_of 1 false 5 ∷ []; rounds = 1; total = pos 22; end = 7 } }
unfolding held_from job_from worth_at worth_in answer_to victims_of victims_to victim_of offer lesser loss_of circle_of circle_from settled rounds best_of consider offered better group_of grow by_density preferred reckon to_free to_end onward earned denser denser_than chain_of chain_to holder_from after_all upto granted ran rolled_back
answer = refl

-- FROM BYTES TO BYTES AND BACK: what a reader finds in an output of 430 nines after the call
abbrev pub nines : List ℕ
nines = replicate 430 9

pub unrefused : (outcome_of five nines).verdict.number ≡ 0
unrefused = by (given_out five nines)
  where
    by : {v : Verdict} → Given five 430 430 v → v.number ≡ 0
    by (small l) = absurd (omega arith)
    by (reader l h) = ap (λ (b : Book). b.number) book-read
    by (knot l e h) = absurd (omega (arith, rw book-read at h, knot-none))
    by (none l e h) = refl

-- THE MACHINE ON IT: where it starts,
abbrev pub start : Machine
start = machine_from book []

abbrev pub waiting : MachineJob
waiting = record { rolling = false; run = 5; rollback = 1; request = asks_r0; holds = []; curve = flat 22 }

starts : start ≡ record { clock = 0; paid = pos 0; unpaid = 0; jobs = record { rolling = false; run = 6; rollback = 2; request = nothing; holds = r0 6 2 ∷ []; curve = flat 0 } ∷ waiting ∷ [] }
unfolding with_victims
starts = refl

-- after the rollback part, which is not paid and frees r0,
abbrev pub undone : MachineJob
undone = record { rolling = true; run = 6; rollback = 0; request = nothing; holds = []; curve = flat 0 }

-- and after the normal one, which is given r0 and is paid at 7
finishes : follow start (part_of 0 true 2 ∷ part_of 1 false 5 ∷ []) ≡ record { clock = 7; paid = pos 22; unpaid = 0; jobs = undone ∷ record { rolling = false; run = 0; rollback = 2; request = nothing; holds = []; curve = flat 22 } ∷ [] }
unfolding with_victims follow with_request still_held earnings worth_at worth_in
finishes = refl

-- IT CHECKS NONE: a job that is not there, which it can't pay, a finished one, more rollback than is left, and no time
senseless : follow start (part_of 9 false 3 ∷ part_of 1 false 5 ∷ part_of 1 false 1 ∷ part_of 0 true 9 ∷ part_of 0 false 0 ∷ []) ≡ record { clock = 18; paid = pos 44; unpaid = 1; jobs = undone ∷ record { rolling = false; run = 0; rollback = 2; request = nothing; holds = []; curve = flat 22 } ∷ [] }
unfolding with_victims follow with_request still_held earnings worth_at worth_in
senseless = refl

-- WHAT DEMAND 3 RULES OUT: no parts at all, since job 1 is left and is worth 22,
idle : Demand3 by_density start (stop 0) → ⊥
unfolding with_victims follow lists hold_on machine_holder worth_at worth_in group_of grow by_density preferred reckon to_free to_end onward earned denser denser_than chain_of chain_to
idle d = true≢false (d.none_worthwhile 1 refl refl)

-- an invented total,
invented : Demand3 by_density start (record { parts = part_of 0 true 2 ∷ part_of 1 false 5 ∷ []; rounds = 1; total = pos 23; end = 7 }) → ⊥
unfolding with_victims follow with_request still_held earnings worth_at worth_in
invented d = let e : ◌≡◌ {A = ℕ} 22 23 = ap nat_abs d.pays_total in omega arith

-- and job 1 at once: job 0 holds what it asks for, and then r0 has two holders
abbrev at_once : Plan
at_once = record { parts = part_of 1 false 5 ∷ []; rounds = 1; total = pos 22; end = 5 }

early : Demand3 by_density start at_once → ⊥
unfolding with_victims follow lists
early d = true≢false (d.starts_free 0 0 (omega arith) refl)

shared : Demand3 by_density start at_once → ⊥
unfolding with_victims follow with_request still_held earnings lists done_by
shared d = let e : ◌≡◌ {A = ℕ} 0 1 = d.one_holder 2 0 1 0 refl refl in omega arith

-- and the same parts begun at 94, where job 1 finishes at 101: outside its curve, so that it is not paid
abbrev pub later : Machine
later = record { clock = 94; paid = pos 0; unpaid = 0; jobs = start.jobs }

abbrev pub too_late : Plan
too_late = record { parts = part_of 0 true 2 ∷ part_of 1 false 5 ∷ []; rounds = 1; total = pos 0; end = 101 }

pub not-paid : (follow later too_late.parts).unpaid ≡ 1
unfolding with_victims follow with_request still_held earnings worth_at worth_in
not-paid = refl

-- A LATE JOB THAT CAN'T BE ROLLED BACK (R-7): job 0 holds r0 until it ends at 10, and its curve ends at 8; job 1 asks for r0
pub late : List ℕ
late =
    0 ∷ 66 ∷ 1 ∷ 2 ∷ 1 ∷ 0 ∷ 0 ∷ 0 ∷ 0
    ∷ 0 ∷ 0 ∷ 10 ∷ 255 ∷ 255 ∷ 255 ∷ 0 ∷ 0 ∷ 0 ∷ 0 ∷ 1 ∷ 0 ∷ 0 ∷ 10 ∷ 255 ∷ 255 ∷ 1 ∷ 0 ∷ 0 ∷ 0 ∷ 0 ∷ 0 ∷ 0 ∷ 0 ∷ 5 ∷ 0 ∷ 0 ∷ 0 ∷ 0 ∷ 0 ∷ 8
    ∷ 0 ∷ 0 ∷ 5 ∷ 0 ∷ 1 ∷ 0 ∷ 0 ∷ 5 ∷ 0 ∷ 1 ∷ 0 ∷ 1 ∷ 0 ∷ 0 ∷ 0 ∷ 0 ∷ 0 ∷ 0 ∷ 0 ∷ 22 ∷ 0 ∷ 0 ∷ 0 ∷ 0 ∷ 0 ∷ 100
    ∷ []

abbrev until8 : Curve
until8 = record { pieces = record { start = 0; value = pos 5; slope = pos 0 } ∷ replicate 7 no_piece; count = 1; end = 8 }

abbrev pub late_book : Book
late_book = record {
  number = 0;
  place = 0;
  now = 0;
  jobs = 2;
  resources = 1;
  records =
      record { mode = 0; run = 10; rollback = 65535; request = nothing; holds = 1; held = r0 10 65535 ∷ replicate 31 no_entry; curve = until8 }
      ∷ record { mode = 0; run = 5; rollback = 1; request = asks_r0; holds = 0; held = replicate 32 no_entry; curve = flat 22 }
      ∷ replicate 30 empty_record;
  holders = 0 ∷ replicate 31 255;
  spans = record { start = 9; end = 40 } ∷ record { start = 40; end = 66 } ∷ replicate 30 empty_span;
}

pub late-read : book_of late ≡ late_book
unfolding late book_of refused_book accepted_book header_of records_read no_records record_next record_read tail_read rollback_read request_read requested_resource requested_rollback held_read entry_next entry_read held_resource unheld_read curve_read pieces_read piece_next piece_read start_read signed_read end_read field_of rule_of read_at judged value_at upto rollback_ok request_ok if_requested least_rollback mode_ok signed_of around_ok line_ok
late-read = refl

pub late-knot : knot_of (view_from late_book) 0 ≡ 255
unfolding held_from job_from knot_of knot_to victim_of offer lesser loss_of circle_of circle_from denser denser_than holder_from upto
late-knot = refl

pub late-answer : answer_from late_book ≡ record { victims = []; plan = stop 0 }
unfolding held_from job_from worth_at worth_in answer_to victims_of victims_to victim_of offer lesser loss_of circle_of circle_from settled rounds best_of consider offered better group_of grow by_density preferred reckon to_free to_end onward earned denser denser_than chain_of chain_to holder_from after_all upto granted ran rolled_back
late-answer = refl

-- the group of job 1 is worth 22, and it is no candidate
late-group : (group_of by_density (view_of_machine (machine_from late_book [])) 0 1).course ≡ record { time = 15; gain = pos 22; inside = false }
unfolding with_victims lists hold_on machine_holder worth_at worth_in group_of grow by_density preferred reckon to_free to_end onward earned denser denser_than chain_of chain_to
late-group = refl

-- CASE 2, and no parts: "an empty plan also breaks the end of demand 3 in case 2", since job 1 is left and its group is worth 40
two : List ℕ
two =
    0 ∷ 61 ∷ 1 ∷ 2 ∷ 0 ∷ 0 ∷ 0 ∷ 0 ∷ 0
    ∷ 0 ∷ 0 ∷ 10 ∷ 0 ∷ 1 ∷ 255 ∷ 0 ∷ 0 ∷ 0 ∷ 0 ∷ 0 ∷ 1 ∷ 0 ∷ 0 ∷ 0 ∷ 0 ∷ 0 ∷ 0 ∷ 0 ∷ 50 ∷ 0 ∷ 0 ∷ 0 ∷ 0 ∷ 3 ∷ 232
    ∷ 0 ∷ 0 ∷ 4 ∷ 0 ∷ 1 ∷ 255 ∷ 0 ∷ 0 ∷ 0 ∷ 0 ∷ 0 ∷ 1 ∷ 0 ∷ 0 ∷ 0 ∷ 0 ∷ 0 ∷ 0 ∷ 0 ∷ 40 ∷ 0 ∷ 0 ∷ 0 ∷ 0 ∷ 3 ∷ 232
    ∷ []

empty-plan : Demand3 by_density (machine_from (book_of two) []) (stop 0) → ⊥
unfolding two book_of refused_book accepted_book header_of records_read no_records record_next record_read tail_read rollback_read request_read requested_resource requested_rollback held_read entry_next entry_read held_resource unheld_read curve_read pieces_read piece_next piece_read start_read signed_read end_read field_of rule_of read_at judged value_at upto rollback_ok request_ok if_requested least_rollback mode_ok signed_of around_ok line_ok with_victims follow lists hold_on machine_holder worth_at worth_in group_of grow by_density preferred reckon to_free to_end onward earned denser denser_than chain_of chain_to
empty-plan d = true≢false (d.none_worthwhile 1 refl refl)
