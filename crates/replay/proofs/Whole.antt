-- What rests on specs/Whole.antt.
use Rattle.std.specs.Prelude.{◌≡◌}
use Rattle.std.proofs.Common.{sym, subst, ◌∙◌, inl, inr, arith}
use Rattle.std.proofs.Math.Path.{ap}
use mathlib.Core.List.{List}
use Prim.Native.Nat.{ℕ, ◌+◌, ◌*◌, ◌≤◌}
use Rattle.std.proofs.Math.ListN.{length, get_or}
use Rattle.laws.specs.Stores.{over}
use Rattle.laws.specs.Search.{lt-or-le}
use Rattle.cursor.specs.Refusal.{KNOT}
use Rattle.book.specs.Format.{book_of}
use Rattle.gus.specs.declared.Part.{Part}
use Rattle.gus.specs.Choice.{by_density}
use Rattle.gus.specs.Plan.{Answer, answer_to}
use Rattle.opening.specs.Planned.{view_from, answer_from}
use Rattle.planner.specs.Plans.{Planned}
use Rattle.planner.specs.LaidOut.{empty_part}
use Rattle.planner.specs.Planned.{laid_plan, planned_of}
use Rattle.ilhuepatl.specs.Answer.{answer_bytes}
use Rattle.ilhuepatl.specs.Calls.{Outcome, by_plan, outcome_of}
use Rattle.ilhuepatl.specs.Rows.{RowOutcome, row_outcome_of, by_plan as by_row_plan}
use Rattle.replay.specs.Machine.{machine_from}
use Rattle.replay.specs.Sentences.{Demand3}
use Rattle.replay.proofs.Demand.{demand3}
use Rattle.replay.specs.ReadBack.{length_at, version_at, read_answer, read_row}
use Rattle.replay.specs.Reads.{Fits, answer-size, length-read, version-read, parts_whole}
use Rattle.replay.proofs.ReadsTheorems.{answer-read}
use Rattle.replay.specs.AllBytes.{answer-bytes}
use Rattle.replay.specs.Fits.{answer-fits}
use Rattle.replay.specs.Later.{over-later, over-size}
use Rattle.replay.specs.OneOfEach.{OneOfEach, one-of-each}
use Rattle.planner.specs.Ends.{knot_in, Ends, refuses, knots, answers, ends}
use Rattle.replay.specs.Lent.{without-room, with-room, without-row, with_row}
use Rattle.replay.specs.Whole.{Answers, Certain, CertainRow, after, not-refused, row-not-refused, row_after, row_read}

answers_by : (s : List ℕ) {read : Answer} → (book_of s).number ≡ 0 → 32 ≤ knot_in s → read ≡ answer_from (book_of s) → Answers s read
unfolding answer_to
answers_by s e none q = record {
  accepted = e;
  unknotted = none;
  is = q;
  victims = subst (λ (a : Answer). OneOfEach (view_from (book_of s)) a.victims) (sym q) (one-of-each (view_from (book_of s)) (book_of s).now none);
  keeps = subst (λ (a : Answer). Demand3 by_density (machine_from (book_of s) a.victims) a.plan) (sym q) (demand3 s e none);
}

module _ (s out : List ℕ) where
  certain-by : (p : Planned) → Ends 32 by_density s p → 430 ≤ length out → outcome_of s out ≡ by_plan p out → (outcome_of s out).verdict.number ≡ 0 → Certain s out
  unfolding laid_plan
  certain-by p (refuses l) h q e = absurd (not-refused s out _ _ l q e)
  certain-by p (knots b l) h q e = absurd (not-refused s out KNOT _ (omega arith) q e)
  certain-by p (answers b none) h q e =
      let a : Answer = answer_from (book_of s) in
      let f : Fits a = answer-fits s b none in
      let bytes : List ℕ = answer_bytes (laid_plan a) in
      let w : after s out ≡ over bytes out = ap (λ (o : Outcome). o.out) q in
      let read : read_answer (after s out) ≡ a = ap read_answer w ∙ answer-read a out f in
      let long : length_at (after s out) ≡ 14 + length a.victims + 4 * length a.plan.parts = ap length_at w ∙ length-read a out f in
      let size : length bytes ≡ 14 + length a.victims + 4 * length a.plan.parts = answer-size a f in
      record {
        answer = answers_by s b none read;
        length_is = rw read long;
        version_is = ap version_at w ∙ version-read a out;
        later = λ k l. ap (λ (o : List ℕ). get_or o k 0) w ∙ over-later bytes out k 0 (omega arith);
        same_size = ap length w ∙ over-size bytes out (omega (arith, f.few_victims, f.few_parts));
        bytes = λ x. rw w (answer-bytes a f x);
        written = w;
      }

  pub certain : (outcome_of s out).verdict.number ≡ 0 → Certain s out
  certain e = elim (lt-or-le (length out) 430) [
    | inl h ↦ absurd (omega (arith, ap (λ (o : Outcome). o.verdict.number) (without-room s out h)))
    | inr h ↦ certain-by (planned_of s) (ends 32 by_density s) h (with-room s out h) e
  ]

module _ (s : List ℕ) (row : List Part) where
  certain-row-by : (p : Planned) → Ends 32 by_density s p → 96 ≤ length row → row_outcome_of s row ≡ by_row_plan p row → (row_outcome_of s row).answer.number ≡ 0 → CertainRow s row
  unfolding laid_plan
  certain-row-by p (refuses l) h q e = absurd (row-not-refused s row _ _ l q e)
  certain-row-by p (knots b l) h q e = absurd (row-not-refused s row KNOT _ (omega arith) q e)
  certain-row-by p (answers b none) h q e =
      let a : Answer = answer_from (book_of s) in
      let w : row_after s row ≡ over a.plan.parts row = ap (λ (o : RowOutcome). o.row) q ∙ ap (λ (l : List Part). over l row) (parts_whole a) in
      let count : (row_outcome_of s row).answer.count ≡ length a.plan.parts = ap (λ (o : RowOutcome). o.answer.count) q in
      record {
        answer = answers_by s b none (ap read_row q ∙ row_read a row);
        later = λ k l. ap (λ (o : List Part). get_or o k empty_part) w ∙ over-later a.plan.parts row k empty_part (omega arith);
        same_size = ap length w ∙ over-size a.plan.parts row (omega (arith, (answer-fits s b none).few_parts));
      }

  pub certain-row : (row_outcome_of s row).answer.number ≡ 0 → CertainRow s row
  certain-row e = elim (lt-or-le (length row) 96) [
    | inl h ↦ absurd (omega (arith, ap (λ (o : RowOutcome). o.answer.number) (without-row s row h)))
    | inr h ↦ certain-row-by (planned_of s) (ends 32 by_density s) h (with_row s row h) e
  ]
