-- The twelve of 01, "Twelve to prove": each book as bytes, its answer as bytes or as a refusal, its first part, and the number that C gets for that; and one proof over the table.
use Rattle.std.specs.Prelude.{◌≡◌, refl, true, false, List, [], ◌∷◌, ◌++◌, map, ℕ, ltb}
use Rattle.std.proofs.Common.{sym, ◌∙◌}
use Rattle.cursor.specs.Refusal.{KNOT}
use Rattle.cursor.specs.Field.{value_at, judged, read_at, field_of, rule_of}
use Rattle.curve.specs.Layout.{signed_of}
use Rattle.book.specs.Rules.{rollback_ok, request_ok, if_requested, least_rollback, mode_ok, around_ok, line_ok}
use Rattle.cursor.specs.Header.{header_of}
use Rattle.book.specs.Format.{rollback_read, requested_resource, requested_rollback, request_read, unheld_read, held_resource, entry_read, entry_next, held_read, start_read, signed_read, piece_read, piece_next, pieces_read, end_read, curve_read, record_read, record_next, no_records, records_read, tail_read, accepted_book, refused_book, book_of}
use Rattle.job.specs.Job.{granted, ran, rolled_back}
use Rattle.curve.specs.Worth.{worth_in, worth_at}
use Rattle.curve.specs.Density.{denser_than}
use Rattle.gus.specs.State.{after_all}
use Rattle.gus.specs.Waits.{holder_from, chain_to, chain_of}
use Rattle.gus.specs.Course.{earned, onward, to_free, to_end, denser}
use Rattle.gus.specs.Choice.{reckon, preferred, by_density}
use Rattle.gus.specs.Group.{part_of, grow, group_of}
use Rattle.gus.specs.Round.{better, offered, consider, best_of, rounds}
use Rattle.gus.specs.Victims.{circle_from, circle_of, loss_of, lesser, offer, victim_of, victims_to, victims_of, knot_to, knot_of, settled}
use Rattle.gus.specs.Plan.{answer_to}
use Rattle.laws.specs.Count.{upto}
use Rattle.laws.specs.Fill.{padded}
use Rattle.opening.specs.Start.{held_from, job_from}
use Rattle.planner.specs.Plans.{FirstPart}
use Rattle.planner.specs.Planned.{laid_plan, refused_plan, answered_to, planned_to, planned_of}
use Rattle.planner.specs.First.{first_in, refused_first, nothing, found, first-planned}
use Rattle.ilhuepatl.specs.Calls.{word, part_word, first_word}
use Rattle.ilhuepatl.specs.Answer.{two, four, bits, part_bytes, parts_bytes, answer_bytes}

pub data Outcome : Type 0 where
  bytes : List ℕ → Outcome
  refused : ℕ → ℕ → Outcome

-- from a book's bytes to its answer's bytes, or to the refusal's number and place
unfoldable pub outcome_of : List ℕ → Outcome
outcome_of s = let p = planned_of s in elim (ltb 0 p.number) [ true ↦ refused p.number p.place | false ↦ bytes (answer_bytes p) ]

pub record Case : Type 0 where
  pub book : List ℕ
  pub outcome : Outcome
  pub first : FirstPart
  pub word : ℕ

-- 1. Empty book of 9 bytes
case1 : Case
case1 = record {
  book = ((0 ∷ 9 ∷ 1 ∷ 0 ∷ 0 ∷ 0 ∷ 0 ∷ 0 ∷ 0 ∷ []));
  outcome = bytes ((0 ∷ 14 ∷ 1 ∷ 0 ∷ [])
      ++ (0 ∷ [])
      ++ (0 ∷ 0 ∷ 0 ∷ 0 ∷ 0 ∷ 0 ∷ 0 ∷ 0 ∷ 0 ∷ []));
  first = nothing;
  word = 0;
}

-- 2. Job 0 10/50, job 1 4/40
case2 : Case
case2 = record {
  book = ((0 ∷ 61 ∷ 1 ∷ 2 ∷ 0 ∷ 0 ∷ 0 ∷ 0 ∷ 0 ∷ [])
      ++ (0 ∷ 0 ∷ 10 ∷ 0 ∷ 1 ∷ 255 ∷ 0 ∷ 0 ∷ 0 ∷ 0 ∷ 0 ∷ 1 ∷ 0 ∷ 0 ∷ 0 ∷ 0 ∷ 0 ∷ 0 ∷ 0 ∷ 50 ∷ 0 ∷ 0 ∷ 0 ∷ 0 ∷ 3 ∷ 232 ∷ [])
      ++ (0 ∷ 0 ∷ 4 ∷ 0 ∷ 1 ∷ 255 ∷ 0 ∷ 0 ∷ 0 ∷ 0 ∷ 0 ∷ 1 ∷ 0 ∷ 0 ∷ 0 ∷ 0 ∷ 0 ∷ 0 ∷ 0 ∷ 40 ∷ 0 ∷ 0 ∷ 0 ∷ 0 ∷ 3 ∷ 232 ∷ []));
  outcome = bytes ((0 ∷ 22 ∷ 1 ∷ 0 ∷ [])
      ++ (2 ∷ [])
      ++ (1 ∷ 0 ∷ 0 ∷ 4 ∷ [])
      ++ (0 ∷ 0 ∷ 0 ∷ 10 ∷ [])
      ++ (2 ∷ 0 ∷ 0 ∷ 0 ∷ 90 ∷ 0 ∷ 0 ∷ 0 ∷ 14 ∷ []));
  first = found (part_of 1 false 4);
  word = 16777220;
}

-- 3. Job 0 10/7, termination 10
case3 : Case
case3 = record {
  book = ((0 ∷ 35 ∷ 1 ∷ 1 ∷ 0 ∷ 0 ∷ 0 ∷ 0 ∷ 0 ∷ [])
      ++ (0 ∷ 0 ∷ 10 ∷ 0 ∷ 1 ∷ 255 ∷ 0 ∷ 0 ∷ 0 ∷ 0 ∷ 0 ∷ 1 ∷ 0 ∷ 0 ∷ 0 ∷ 0 ∷ 0 ∷ 0 ∷ 0 ∷ 7 ∷ 0 ∷ 0 ∷ 0 ∷ 0 ∷ 0 ∷ 10 ∷ []));
  outcome = bytes ((0 ∷ 18 ∷ 1 ∷ 0 ∷ [])
      ++ (1 ∷ [])
      ++ (0 ∷ 0 ∷ 0 ∷ 10 ∷ [])
      ++ (1 ∷ 0 ∷ 0 ∷ 0 ∷ 7 ∷ 0 ∷ 0 ∷ 0 ∷ 10 ∷ []));
  first = found (part_of 0 false 10);
  word = 10;
}

-- 4. The same, termination 9
case4 : Case
case4 = record {
  book = ((0 ∷ 35 ∷ 1 ∷ 1 ∷ 0 ∷ 0 ∷ 0 ∷ 0 ∷ 0 ∷ [])
      ++ (0 ∷ 0 ∷ 10 ∷ 0 ∷ 1 ∷ 255 ∷ 0 ∷ 0 ∷ 0 ∷ 0 ∷ 0 ∷ 1 ∷ 0 ∷ 0 ∷ 0 ∷ 0 ∷ 0 ∷ 0 ∷ 0 ∷ 7 ∷ 0 ∷ 0 ∷ 0 ∷ 0 ∷ 0 ∷ 9 ∷ []));
  outcome = bytes ((0 ∷ 14 ∷ 1 ∷ 0 ∷ [])
      ++ (0 ∷ [])
      ++ (0 ∷ 0 ∷ 0 ∷ 0 ∷ 0 ∷ 0 ∷ 0 ∷ 0 ∷ 0 ∷ []));
  first = nothing;
  word = 0;
}

-- 5. The book printed in 01
case5 : Case
case5 = record {
  book = ((0 ∷ 66 ∷ 1 ∷ 2 ∷ 1 ∷ 0 ∷ 0 ∷ 0 ∷ 0 ∷ [])
      ++ (0 ∷ 0 ∷ 6 ∷ 0 ∷ 2 ∷ 255 ∷ 0 ∷ 0 ∷ 0 ∷ 0 ∷ 1 ∷ 0 ∷ 0 ∷ 6 ∷ 0 ∷ 2 ∷ 1 ∷ 0 ∷ 0 ∷ 0 ∷ 0 ∷ 0 ∷ 0 ∷ 0 ∷ 0 ∷ 0 ∷ 0 ∷ 0 ∷ 0 ∷ 0 ∷ 100 ∷ [])
      ++ (0 ∷ 0 ∷ 5 ∷ 0 ∷ 1 ∷ 0 ∷ 0 ∷ 5 ∷ 0 ∷ 1 ∷ 0 ∷ 1 ∷ 0 ∷ 0 ∷ 0 ∷ 0 ∷ 0 ∷ 0 ∷ 0 ∷ 22 ∷ 0 ∷ 0 ∷ 0 ∷ 0 ∷ 0 ∷ 100 ∷ []));
  outcome = bytes ((0 ∷ 22 ∷ 1 ∷ 0 ∷ [])
      ++ (2 ∷ [])
      ++ (0 ∷ 1 ∷ 0 ∷ 2 ∷ [])
      ++ (1 ∷ 0 ∷ 0 ∷ 5 ∷ [])
      ++ (1 ∷ 0 ∷ 0 ∷ 0 ∷ 22 ∷ 0 ∷ 0 ∷ 0 ∷ 7 ∷ []));
  first = found (part_of 0 true 2);
  word = 65538;
}

-- 6. Job 0 20/30 holds r0 (6, rollback 1); job 1 5/22 requests r0 (5, 1). The answer is R-3's (02): job 0 does not finish by running for 6
case6 : Case
case6 = record {
  book = ((0 ∷ 66 ∷ 1 ∷ 2 ∷ 1 ∷ 0 ∷ 0 ∷ 0 ∷ 0 ∷ [])
      ++ (0 ∷ 0 ∷ 20 ∷ 0 ∷ 1 ∷ 255 ∷ 0 ∷ 0 ∷ 0 ∷ 0 ∷ 1 ∷ 0 ∷ 0 ∷ 6 ∷ 0 ∷ 1 ∷ 1 ∷ 0 ∷ 0 ∷ 0 ∷ 0 ∷ 0 ∷ 0 ∷ 0 ∷ 30 ∷ 0 ∷ 0 ∷ 0 ∷ 0 ∷ 3 ∷ 232 ∷ [])
      ++ (0 ∷ 0 ∷ 5 ∷ 0 ∷ 1 ∷ 0 ∷ 0 ∷ 5 ∷ 0 ∷ 1 ∷ 0 ∷ 1 ∷ 0 ∷ 0 ∷ 0 ∷ 0 ∷ 0 ∷ 0 ∷ 0 ∷ 22 ∷ 0 ∷ 0 ∷ 0 ∷ 0 ∷ 3 ∷ 232 ∷ []));
  outcome = bytes ((0 ∷ 22 ∷ 1 ∷ 0 ∷ [])
      ++ (2 ∷ [])
      ++ (0 ∷ 1 ∷ 0 ∷ 1 ∷ [])
      ++ (1 ∷ 0 ∷ 0 ∷ 5 ∷ [])
      ++ (1 ∷ 0 ∷ 0 ∷ 0 ∷ 22 ∷ 0 ∷ 0 ∷ 0 ∷ 6 ∷ []));
  first = found (part_of 0 true 1);
  word = 65537;
}

-- 7. Case 5, job 0 rollback and held rollback 6: a tie
case7 : Case
case7 = record {
  book = ((0 ∷ 66 ∷ 1 ∷ 2 ∷ 1 ∷ 0 ∷ 0 ∷ 0 ∷ 0 ∷ [])
      ++ (0 ∷ 0 ∷ 6 ∷ 0 ∷ 6 ∷ 255 ∷ 0 ∷ 0 ∷ 0 ∷ 0 ∷ 1 ∷ 0 ∷ 0 ∷ 6 ∷ 0 ∷ 6 ∷ 1 ∷ 0 ∷ 0 ∷ 0 ∷ 0 ∷ 0 ∷ 0 ∷ 0 ∷ 0 ∷ 0 ∷ 0 ∷ 0 ∷ 0 ∷ 0 ∷ 100 ∷ [])
      ++ (0 ∷ 0 ∷ 5 ∷ 0 ∷ 1 ∷ 0 ∷ 0 ∷ 5 ∷ 0 ∷ 1 ∷ 0 ∷ 1 ∷ 0 ∷ 0 ∷ 0 ∷ 0 ∷ 0 ∷ 0 ∷ 0 ∷ 22 ∷ 0 ∷ 0 ∷ 0 ∷ 0 ∷ 0 ∷ 100 ∷ []));
  outcome = bytes ((0 ∷ 22 ∷ 1 ∷ 0 ∷ [])
      ++ (2 ∷ [])
      ++ (0 ∷ 0 ∷ 0 ∷ 6 ∷ [])
      ++ (1 ∷ 0 ∷ 0 ∷ 5 ∷ [])
      ++ (1 ∷ 0 ∷ 0 ∷ 0 ∷ 22 ∷ 0 ∷ 0 ∷ 0 ∷ 11 ∷ []));
  first = found (part_of 0 false 6);
  word = 6;
}

-- 8. Job 0 12/0, never, holds r0 for 3, r1 for 8; job 1 2/10 requests r1 for 2
case8 : Case
case8 = record {
  book = ((0 ∷ 71 ∷ 1 ∷ 2 ∷ 2 ∷ 0 ∷ 0 ∷ 0 ∷ 0 ∷ [])
      ++ (0 ∷ 0 ∷ 12 ∷ 255 ∷ 255 ∷ 255 ∷ 0 ∷ 0 ∷ 0 ∷ 0 ∷ 2 ∷ 0 ∷ 0 ∷ 3 ∷ 255 ∷ 255 ∷ 1 ∷ 0 ∷ 8 ∷ 255 ∷ 255 ∷ 1 ∷ 0 ∷ 0 ∷ 0 ∷ 0 ∷ 0 ∷ 0 ∷ 0 ∷ 0 ∷ 0 ∷ 0 ∷ 0 ∷ 0 ∷ 3 ∷ 232 ∷ [])
      ++ (0 ∷ 0 ∷ 2 ∷ 0 ∷ 1 ∷ 1 ∷ 0 ∷ 2 ∷ 0 ∷ 1 ∷ 0 ∷ 1 ∷ 0 ∷ 0 ∷ 0 ∷ 0 ∷ 0 ∷ 0 ∷ 0 ∷ 10 ∷ 0 ∷ 0 ∷ 0 ∷ 0 ∷ 3 ∷ 232 ∷ []));
  outcome = bytes ((0 ∷ 22 ∷ 1 ∷ 0 ∷ [])
      ++ (2 ∷ [])
      ++ (0 ∷ 0 ∷ 0 ∷ 8 ∷ [])
      ++ (1 ∷ 0 ∷ 0 ∷ 2 ∷ [])
      ++ (1 ∷ 0 ∷ 0 ∷ 0 ∷ 10 ∷ 0 ∷ 0 ∷ 0 ∷ 10 ∷ []));
  first = found (part_of 0 false 8);
  word = 8;
}

-- 9. A circle of two
case9 : Case
case9 = record {
  book = ((0 ∷ 71 ∷ 1 ∷ 2 ∷ 2 ∷ 0 ∷ 0 ∷ 0 ∷ 0 ∷ [])
      ++ (0 ∷ 0 ∷ 10 ∷ 0 ∷ 3 ∷ 1 ∷ 0 ∷ 4 ∷ 0 ∷ 1 ∷ 1 ∷ 0 ∷ 0 ∷ 10 ∷ 0 ∷ 3 ∷ 1 ∷ 0 ∷ 0 ∷ 0 ∷ 0 ∷ 0 ∷ 0 ∷ 0 ∷ 50 ∷ 0 ∷ 0 ∷ 0 ∷ 0 ∷ 3 ∷ 232 ∷ [])
      ++ (0 ∷ 0 ∷ 10 ∷ 0 ∷ 3 ∷ 0 ∷ 0 ∷ 4 ∷ 0 ∷ 1 ∷ 1 ∷ 1 ∷ 0 ∷ 10 ∷ 0 ∷ 3 ∷ 1 ∷ 0 ∷ 0 ∷ 0 ∷ 0 ∷ 0 ∷ 0 ∷ 0 ∷ 20 ∷ 0 ∷ 0 ∷ 0 ∷ 0 ∷ 3 ∷ 232 ∷ []));
  outcome = bytes ((0 ∷ 23 ∷ 1 ∷ 1 ∷ 1 ∷ [])
      ++ (2 ∷ [])
      ++ (1 ∷ 1 ∷ 0 ∷ 3 ∷ [])
      ++ (0 ∷ 0 ∷ 0 ∷ 10 ∷ [])
      ++ (1 ∷ 0 ∷ 0 ∷ 0 ∷ 50 ∷ 0 ∷ 0 ∷ 0 ∷ 13 ∷ []));
  first = found (part_of 1 true 3);
  word = 16842755;
}

-- 10. Case 9, job 1 never
case10 : Case
case10 = record {
  book = ((0 ∷ 71 ∷ 1 ∷ 2 ∷ 2 ∷ 0 ∷ 0 ∷ 0 ∷ 0 ∷ [])
      ++ (0 ∷ 0 ∷ 10 ∷ 0 ∷ 3 ∷ 1 ∷ 0 ∷ 4 ∷ 0 ∷ 1 ∷ 1 ∷ 0 ∷ 0 ∷ 10 ∷ 0 ∷ 3 ∷ 1 ∷ 0 ∷ 0 ∷ 0 ∷ 0 ∷ 0 ∷ 0 ∷ 0 ∷ 50 ∷ 0 ∷ 0 ∷ 0 ∷ 0 ∷ 3 ∷ 232 ∷ [])
      ++ (0 ∷ 0 ∷ 10 ∷ 255 ∷ 255 ∷ 0 ∷ 0 ∷ 4 ∷ 255 ∷ 255 ∷ 1 ∷ 1 ∷ 0 ∷ 10 ∷ 255 ∷ 255 ∷ 1 ∷ 0 ∷ 0 ∷ 0 ∷ 0 ∷ 0 ∷ 0 ∷ 0 ∷ 20 ∷ 0 ∷ 0 ∷ 0 ∷ 0 ∷ 3 ∷ 232 ∷ []));
  outcome = bytes ((0 ∷ 23 ∷ 1 ∷ 1 ∷ 0 ∷ [])
      ++ (2 ∷ [])
      ++ (0 ∷ 1 ∷ 0 ∷ 3 ∷ [])
      ++ (1 ∷ 0 ∷ 0 ∷ 10 ∷ [])
      ++ (1 ∷ 0 ∷ 0 ∷ 0 ∷ 20 ∷ 0 ∷ 0 ∷ 0 ∷ 13 ∷ []));
  first = found (part_of 0 true 3);
  word = 65539;
}

-- 11. Case 9, both never: KNOT at 0
case11 : Case
case11 = record {
  book = ((0 ∷ 71 ∷ 1 ∷ 2 ∷ 2 ∷ 0 ∷ 0 ∷ 0 ∷ 0 ∷ [])
      ++ (0 ∷ 0 ∷ 10 ∷ 255 ∷ 255 ∷ 1 ∷ 0 ∷ 4 ∷ 255 ∷ 255 ∷ 1 ∷ 0 ∷ 0 ∷ 10 ∷ 255 ∷ 255 ∷ 1 ∷ 0 ∷ 0 ∷ 0 ∷ 0 ∷ 0 ∷ 0 ∷ 0 ∷ 50 ∷ 0 ∷ 0 ∷ 0 ∷ 0 ∷ 3 ∷ 232 ∷ [])
      ++ (0 ∷ 0 ∷ 10 ∷ 255 ∷ 255 ∷ 0 ∷ 0 ∷ 4 ∷ 255 ∷ 255 ∷ 1 ∷ 1 ∷ 0 ∷ 10 ∷ 255 ∷ 255 ∷ 1 ∷ 0 ∷ 0 ∷ 0 ∷ 0 ∷ 0 ∷ 0 ∷ 0 ∷ 20 ∷ 0 ∷ 0 ∷ 0 ∷ 0 ∷ 3 ∷ 232 ∷ []));
  outcome = refused KNOT 0;
  first = refused_first KNOT 0;
  word = 42949672960;
}

-- 12. All never: a chain of three, and what is freed goes to the job that ran next
case12 : Case
case12 = record {
  book = ((0 ∷ 123 ∷ 1 ∷ 4 ∷ 2 ∷ 0 ∷ 0 ∷ 0 ∷ 0 ∷ [])
      ++ (0 ∷ 0 ∷ 2 ∷ 255 ∷ 255 ∷ 255 ∷ 0 ∷ 0 ∷ 0 ∷ 0 ∷ 1 ∷ 0 ∷ 0 ∷ 2 ∷ 255 ∷ 255 ∷ 1 ∷ 0 ∷ 0 ∷ 0 ∷ 0 ∷ 0 ∷ 0 ∷ 0 ∷ 0 ∷ 0 ∷ 0 ∷ 0 ∷ 0 ∷ 3 ∷ 232 ∷ [])
      ++ (0 ∷ 0 ∷ 9 ∷ 255 ∷ 255 ∷ 0 ∷ 0 ∷ 9 ∷ 255 ∷ 255 ∷ 1 ∷ 1 ∷ 0 ∷ 3 ∷ 255 ∷ 255 ∷ 1 ∷ 0 ∷ 0 ∷ 0 ∷ 0 ∷ 0 ∷ 0 ∷ 0 ∷ 5 ∷ 0 ∷ 0 ∷ 0 ∷ 0 ∷ 3 ∷ 232 ∷ [])
      ++ (0 ∷ 0 ∷ 1 ∷ 255 ∷ 255 ∷ 1 ∷ 0 ∷ 1 ∷ 255 ∷ 255 ∷ 0 ∷ 1 ∷ 0 ∷ 0 ∷ 0 ∷ 0 ∷ 0 ∷ 0 ∷ 0 ∷ 60 ∷ 0 ∷ 0 ∷ 0 ∷ 0 ∷ 3 ∷ 232 ∷ [])
      ++ (0 ∷ 0 ∷ 1 ∷ 255 ∷ 255 ∷ 0 ∷ 0 ∷ 1 ∷ 255 ∷ 255 ∷ 0 ∷ 1 ∷ 0 ∷ 0 ∷ 0 ∷ 0 ∷ 0 ∷ 0 ∷ 0 ∷ 5 ∷ 0 ∷ 0 ∷ 0 ∷ 0 ∷ 3 ∷ 232 ∷ []));
  outcome = bytes ((0 ∷ 34 ∷ 1 ∷ 0 ∷ [])
      ++ (5 ∷ [])
      ++ (0 ∷ 0 ∷ 0 ∷ 2 ∷ [])
      ++ (1 ∷ 0 ∷ 0 ∷ 3 ∷ [])
      ++ (2 ∷ 0 ∷ 0 ∷ 1 ∷ [])
      ++ (1 ∷ 0 ∷ 0 ∷ 6 ∷ [])
      ++ (3 ∷ 0 ∷ 0 ∷ 1 ∷ [])
      ++ (2 ∷ 0 ∷ 0 ∷ 0 ∷ 70 ∷ 0 ∷ 0 ∷ 0 ∷ 13 ∷ []));
  first = found (part_of 0 false 2);
  word = 2;
}

-- Beside the twelve, R-3 (02): a chain of three. Job 0 5/30 holds r0 (5, rollback 1); job 1 5/30 holds r1 (4, 1), requests r0 (5, 1); job 2
-- 1/30 requests r1 (1, 1). Job 0 would finish by running and job 1 would not; were job 1 credited all the same where job 0 is decided on, job 0
-- would roll back.
chained : Case
chained = record {
  book = ((0 ∷ 97 ∷ 1 ∷ 3 ∷ 2 ∷ 0 ∷ 0 ∷ 0 ∷ 0 ∷ [])
      ++ (0 ∷ 0 ∷ 5 ∷ 0 ∷ 1 ∷ 255 ∷ 0 ∷ 0 ∷ 0 ∷ 0 ∷ 1 ∷ 0 ∷ 0 ∷ 5 ∷ 0 ∷ 1 ∷ 1 ∷ 0 ∷ 0 ∷ 0 ∷ 0 ∷ 0 ∷ 0 ∷ 0 ∷ 30 ∷ 0 ∷ 0 ∷ 0 ∷ 0 ∷ 3 ∷ 232 ∷ [])
      ++ (0 ∷ 0 ∷ 5 ∷ 0 ∷ 1 ∷ 0 ∷ 0 ∷ 5 ∷ 0 ∷ 1 ∷ 1 ∷ 1 ∷ 0 ∷ 4 ∷ 0 ∷ 1 ∷ 1 ∷ 0 ∷ 0 ∷ 0 ∷ 0 ∷ 0 ∷ 0 ∷ 0 ∷ 30 ∷ 0 ∷ 0 ∷ 0 ∷ 0 ∷ 3 ∷ 232 ∷ [])
      ++ (0 ∷ 0 ∷ 1 ∷ 0 ∷ 1 ∷ 1 ∷ 0 ∷ 1 ∷ 0 ∷ 1 ∷ 0 ∷ 1 ∷ 0 ∷ 0 ∷ 0 ∷ 0 ∷ 0 ∷ 0 ∷ 0 ∷ 30 ∷ 0 ∷ 0 ∷ 0 ∷ 0 ∷ 3 ∷ 232 ∷ []));
  outcome = bytes ((0 ∷ 26 ∷ 1 ∷ 0 ∷ [])
      ++ (3 ∷ [])
      ++ (0 ∷ 0 ∷ 0 ∷ 5 ∷ [])
      ++ (1 ∷ 1 ∷ 0 ∷ 1 ∷ [])
      ++ (2 ∷ 0 ∷ 0 ∷ 1 ∷ [])
      ++ (1 ∷ 0 ∷ 0 ∷ 0 ∷ 60 ∷ 0 ∷ 0 ∷ 0 ∷ 7 ∷ []));
  first = found (part_of 0 false 5);
  word = 5;
}

-- Beside the twelve, R-7 (02): "outside the curve is not zero". Job 0 10/5, termination 8, never, holds r0 for 10; job 1 5/22 requests r0 (5, 1).
-- Job 0 is late, so that no group behind it is a candidate.
late_before : Case
late_before = record {
  book = ((0 ∷ 66 ∷ 1 ∷ 2 ∷ 1 ∷ 0 ∷ 0 ∷ 0 ∷ 0 ∷ [])
      ++ (0 ∷ 0 ∷ 10 ∷ 255 ∷ 255 ∷ 255 ∷ 0 ∷ 0 ∷ 0 ∷ 0 ∷ 1 ∷ 0 ∷ 0 ∷ 10 ∷ 255 ∷ 255 ∷ 1 ∷ 0 ∷ 0 ∷ 0 ∷ 0 ∷ 0 ∷ 0 ∷ 0 ∷ 5 ∷ 0 ∷ 0 ∷ 0 ∷ 0 ∷ 0 ∷ 8 ∷ [])
      ++ (0 ∷ 0 ∷ 5 ∷ 0 ∷ 1 ∷ 0 ∷ 0 ∷ 5 ∷ 0 ∷ 1 ∷ 0 ∷ 1 ∷ 0 ∷ 0 ∷ 0 ∷ 0 ∷ 0 ∷ 0 ∷ 0 ∷ 22 ∷ 0 ∷ 0 ∷ 0 ∷ 0 ∷ 3 ∷ 232 ∷ []));
  outcome = bytes ((0 ∷ 14 ∷ 1 ∷ 0 ∷ [])
      ++ (0 ∷ [])
      ++ (0 ∷ 0 ∷ 0 ∷ 0 ∷ 0 ∷ 0 ∷ 0 ∷ 0 ∷ 0 ∷ []));
  first = nothing;
  word = 0;
}

-- The same with a first start at 11 and a termination at 1,000, and with a first start at 10, when it finishes
too_soon : Case
too_soon = record {
  book = ((0 ∷ 66 ∷ 1 ∷ 2 ∷ 1 ∷ 0 ∷ 0 ∷ 0 ∷ 0 ∷ [])
      ++ (0 ∷ 0 ∷ 10 ∷ 255 ∷ 255 ∷ 255 ∷ 0 ∷ 0 ∷ 0 ∷ 0 ∷ 1 ∷ 0 ∷ 0 ∷ 10 ∷ 255 ∷ 255 ∷ 1 ∷ 0 ∷ 0 ∷ 0 ∷ 11 ∷ 0 ∷ 0 ∷ 0 ∷ 5 ∷ 0 ∷ 0 ∷ 0 ∷ 0 ∷ 3 ∷ 232 ∷ [])
      ++ (0 ∷ 0 ∷ 5 ∷ 0 ∷ 1 ∷ 0 ∷ 0 ∷ 5 ∷ 0 ∷ 1 ∷ 0 ∷ 1 ∷ 0 ∷ 0 ∷ 0 ∷ 0 ∷ 0 ∷ 0 ∷ 0 ∷ 22 ∷ 0 ∷ 0 ∷ 0 ∷ 0 ∷ 3 ∷ 232 ∷ []));
  outcome = bytes ((0 ∷ 14 ∷ 1 ∷ 0 ∷ [])
      ++ (0 ∷ [])
      ++ (0 ∷ 0 ∷ 0 ∷ 0 ∷ 0 ∷ 0 ∷ 0 ∷ 0 ∷ 0 ∷ []));
  first = nothing;
  word = 0;
}

soon_enough : Case
soon_enough = record {
  book = ((0 ∷ 66 ∷ 1 ∷ 2 ∷ 1 ∷ 0 ∷ 0 ∷ 0 ∷ 0 ∷ [])
      ++ (0 ∷ 0 ∷ 10 ∷ 255 ∷ 255 ∷ 255 ∷ 0 ∷ 0 ∷ 0 ∷ 0 ∷ 1 ∷ 0 ∷ 0 ∷ 10 ∷ 255 ∷ 255 ∷ 1 ∷ 0 ∷ 0 ∷ 0 ∷ 10 ∷ 0 ∷ 0 ∷ 0 ∷ 5 ∷ 0 ∷ 0 ∷ 0 ∷ 0 ∷ 3 ∷ 232 ∷ [])
      ++ (0 ∷ 0 ∷ 5 ∷ 0 ∷ 1 ∷ 0 ∷ 0 ∷ 5 ∷ 0 ∷ 1 ∷ 0 ∷ 1 ∷ 0 ∷ 0 ∷ 0 ∷ 0 ∷ 0 ∷ 0 ∷ 0 ∷ 22 ∷ 0 ∷ 0 ∷ 0 ∷ 0 ∷ 3 ∷ 232 ∷ []));
  outcome = bytes ((0 ∷ 22 ∷ 1 ∷ 0 ∷ [])
      ++ (2 ∷ [])
      ++ (0 ∷ 0 ∷ 0 ∷ 10 ∷ [])
      ++ (1 ∷ 0 ∷ 0 ∷ 5 ∷ [])
      ++ (1 ∷ 0 ∷ 0 ∷ 0 ∷ 27 ∷ 0 ∷ 0 ∷ 0 ∷ 15 ∷ []));
  first = found (part_of 0 false 10);
  word = 10;
}

-- Rollback times of 12 in place of never: the normal course has none among its credits, and loses, though it takes less time
late_undone : Case
late_undone = record {
  book = ((0 ∷ 66 ∷ 1 ∷ 2 ∷ 1 ∷ 0 ∷ 0 ∷ 0 ∷ 0 ∷ [])
      ++ (0 ∷ 0 ∷ 10 ∷ 0 ∷ 12 ∷ 255 ∷ 0 ∷ 0 ∷ 0 ∷ 0 ∷ 1 ∷ 0 ∷ 0 ∷ 10 ∷ 0 ∷ 12 ∷ 1 ∷ 0 ∷ 0 ∷ 0 ∷ 0 ∷ 0 ∷ 0 ∷ 0 ∷ 5 ∷ 0 ∷ 0 ∷ 0 ∷ 0 ∷ 0 ∷ 8 ∷ [])
      ++ (0 ∷ 0 ∷ 5 ∷ 0 ∷ 1 ∷ 0 ∷ 0 ∷ 5 ∷ 0 ∷ 1 ∷ 0 ∷ 1 ∷ 0 ∷ 0 ∷ 0 ∷ 0 ∷ 0 ∷ 0 ∷ 0 ∷ 22 ∷ 0 ∷ 0 ∷ 0 ∷ 0 ∷ 3 ∷ 232 ∷ []));
  outcome = bytes ((0 ∷ 22 ∷ 1 ∷ 0 ∷ [])
      ++ (2 ∷ [])
      ++ (0 ∷ 1 ∷ 0 ∷ 12 ∷ [])
      ++ (1 ∷ 0 ∷ 0 ∷ 5 ∷ [])
      ++ (1 ∷ 0 ∷ 0 ∷ 0 ∷ 22 ∷ 0 ∷ 0 ∷ 0 ∷ 17 ∷ []));
  first = found (part_of 0 true 12);
  word = 65548;
}

-- Job 0 20/0 holds r0 (6, rollback 1); job 1 4/5, termination 2, rollback 2, holds r1 (4, 2), requests r0 (4, 1); job 2 3/30 requests r1 (3, 1).
-- Both courses of job 0 have job 1's none, and normal wins; then job 1 is rolled back.
both_late : Case
both_late = record {
  book = ((0 ∷ 97 ∷ 1 ∷ 3 ∷ 2 ∷ 0 ∷ 0 ∷ 0 ∷ 0 ∷ [])
      ++ (0 ∷ 0 ∷ 20 ∷ 0 ∷ 1 ∷ 255 ∷ 0 ∷ 0 ∷ 0 ∷ 0 ∷ 1 ∷ 0 ∷ 0 ∷ 6 ∷ 0 ∷ 1 ∷ 1 ∷ 0 ∷ 0 ∷ 0 ∷ 0 ∷ 0 ∷ 0 ∷ 0 ∷ 0 ∷ 0 ∷ 0 ∷ 0 ∷ 0 ∷ 3 ∷ 232 ∷ [])
      ++ (0 ∷ 0 ∷ 4 ∷ 0 ∷ 2 ∷ 0 ∷ 0 ∷ 4 ∷ 0 ∷ 1 ∷ 1 ∷ 1 ∷ 0 ∷ 4 ∷ 0 ∷ 2 ∷ 1 ∷ 0 ∷ 0 ∷ 0 ∷ 0 ∷ 0 ∷ 0 ∷ 0 ∷ 5 ∷ 0 ∷ 0 ∷ 0 ∷ 0 ∷ 0 ∷ 2 ∷ [])
      ++ (0 ∷ 0 ∷ 3 ∷ 0 ∷ 1 ∷ 1 ∷ 0 ∷ 3 ∷ 0 ∷ 1 ∷ 0 ∷ 1 ∷ 0 ∷ 0 ∷ 0 ∷ 0 ∷ 0 ∷ 0 ∷ 0 ∷ 30 ∷ 0 ∷ 0 ∷ 0 ∷ 0 ∷ 3 ∷ 232 ∷ []));
  outcome = bytes ((0 ∷ 26 ∷ 1 ∷ 0 ∷ [])
      ++ (3 ∷ [])
      ++ (0 ∷ 0 ∷ 0 ∷ 6 ∷ [])
      ++ (1 ∷ 1 ∷ 0 ∷ 2 ∷ [])
      ++ (2 ∷ 0 ∷ 0 ∷ 3 ∷ [])
      ++ (1 ∷ 0 ∷ 0 ∷ 0 ∷ 30 ∷ 0 ∷ 0 ∷ 0 ∷ 11 ∷ []));
  first = found (part_of 0 false 6);
  word = 6;
}

-- Job 0 20/0, rollback 7, holds r0 (6, 7); job 1 run 4, worth -1,000 and from 11 on 0, holds r1 (4, 1), requests r0 (4, 1); job 2 3/30, termination 13,
-- requests r1 (3, 1). The denser course, rolling job 0 back, has job 2's none, and loses.
undone_late : Case
undone_late = record {
  book = ((0 ∷ 107 ∷ 1 ∷ 3 ∷ 2 ∷ 0 ∷ 0 ∷ 0 ∷ 0 ∷ [])
      ++ (0 ∷ 0 ∷ 20 ∷ 0 ∷ 7 ∷ 255 ∷ 0 ∷ 0 ∷ 0 ∷ 0 ∷ 1 ∷ 0 ∷ 0 ∷ 6 ∷ 0 ∷ 7 ∷ 1 ∷ 0 ∷ 0 ∷ 0 ∷ 0 ∷ 0 ∷ 0 ∷ 0 ∷ 0 ∷ 0 ∷ 0 ∷ 0 ∷ 0 ∷ 3 ∷ 232 ∷ [])
      ++ (0 ∷ 0 ∷ 4 ∷ 0 ∷ 1 ∷ 0 ∷ 0 ∷ 4 ∷ 0 ∷ 1 ∷ 1 ∷ 1 ∷ 0 ∷ 4 ∷ 0 ∷ 1 ∷ 2 ∷ 0 ∷ 0 ∷ 0 ∷ 0 ∷ 255 ∷ 255 ∷ 252 ∷ 24 ∷ 0 ∷ 0 ∷ 0 ∷ 0 ∷ 0 ∷ 11 ∷ 0 ∷ 0 ∷ 0 ∷ 0 ∷ 0 ∷ 0 ∷ 0 ∷ 0 ∷ 3 ∷ 232 ∷ [])
      ++ (0 ∷ 0 ∷ 3 ∷ 0 ∷ 1 ∷ 1 ∷ 0 ∷ 3 ∷ 0 ∷ 1 ∷ 0 ∷ 1 ∷ 0 ∷ 0 ∷ 0 ∷ 0 ∷ 0 ∷ 0 ∷ 0 ∷ 30 ∷ 0 ∷ 0 ∷ 0 ∷ 0 ∷ 0 ∷ 13 ∷ []));
  outcome = bytes ((0 ∷ 26 ∷ 1 ∷ 0 ∷ [])
      ++ (3 ∷ [])
      ++ (0 ∷ 0 ∷ 0 ∷ 6 ∷ [])
      ++ (1 ∷ 1 ∷ 0 ∷ 1 ∷ [])
      ++ (2 ∷ 0 ∷ 0 ∷ 3 ∷ [])
      ++ (1 ∷ 0 ∷ 0 ∷ 0 ∷ 30 ∷ 0 ∷ 0 ∷ 0 ∷ 10 ∷ []));
  first = found (part_of 0 false 6);
  word = 6;
}

table : List Case
table = case1 ∷ case2 ∷ case3 ∷ case4 ∷ case5 ∷ case6 ∷ case7 ∷ case8 ∷ case9 ∷ case10 ∷ case11 ∷ case12 ∷ chained ∷ late_before ∷ too_soon ∷ soon_enough ∷ late_undone ∷ both_late ∷ undone_late ∷ []

-- the answers, the first parts by one round, and the numbers that C gets for them
abbrev Twelve : Type 0
Twelve =
    (map (λ c. outcome_of c.book) table ≡ map (λ c. c.outcome) table)
    × (map (λ c. first_in (planned_to 1 by_density c.book)) table ≡ map (λ c. c.first) table)
    × (map (λ c. first_word (first_in (planned_to 1 by_density c.book))) table ≡ map (λ c. c.word) table)

twelve : Twelve
unfolding table case1 case2 case3 case4 case5 case6 case7 case8 case9 case10 case11 case12 chained late_before too_soon soon_enough late_undone both_late undone_late outcome_of value_at judged read_at field_of rule_of rollback_ok request_ok if_requested least_rollback mode_ok signed_of around_ok line_ok header_of rollback_read requested_resource requested_rollback request_read unheld_read held_resource entry_read entry_next held_read start_read signed_read piece_read piece_next pieces_read end_read curve_read record_read record_next no_records records_read tail_read accepted_book refused_book book_of granted ran rolled_back worth_in worth_at denser_than after_all holder_from chain_to chain_of earned onward to_free to_end denser reckon preferred by_density grow group_of better offered consider best_of rounds circle_from circle_of loss_of lesser offer victim_of victims_to victims_of knot_to knot_of settled answer_to upto padded held_from job_from laid_plan refused_plan answered_to planned_to two four bits part_bytes parts_bytes answer_bytes first_in word part_word first_word
twelve = (refl, refl, refl)

-- and the whole plans' first parts
first-parts : map (λ c. first_in (planned_of c.book)) table ≡ map (λ c. c.first) table
first-parts = sym (each table) ∙ twelve.1
  where
    each : (cs : List Case) → map (λ c. first_in (planned_to 1 by_density c.book)) cs ≡ map (λ c. first_in (planned_of c.book)) cs
    each [] = refl
    each (c ∷ cs) = λ i. first-planned c.book i ∷ each cs i
