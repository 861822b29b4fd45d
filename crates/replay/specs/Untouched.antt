-- "A refusal returns number and place, and writes to nothing the caller lent": of the calls themselves.
use Rattle.std.specs.Prelude.{◌≡◌, List, ℕ, ◌<◌, length}
use Rattle.std.proofs.Math.Path.{ap}
use Rattle.std.proofs.Common.{◌∙◌, inl, inr, arith}
use Rattle.laws.specs.Search.{lt-or-le}
use Rattle.cursor.specs.Refusal.{KNOT}
use Rattle.gus.specs.declared.Part.{Part}
use Rattle.gus.specs.Choice.{by_density}
use Rattle.planner.specs.Plans.{Planned}
use Rattle.planner.specs.Planned.{laid_plan, planned_of}
use Rattle.ilhuepatl.specs.Calls.{Outcome, by_plan, outcome_of}
use Rattle.ilhuepatl.specs.Rows.{RowOutcome, row_outcome_of, by_plan as by_row_plan}
use Rattle.planner.specs.Ends.{Ends, refuses, knots, answers, ends}
use Rattle.replay.specs.Lent.{refused-out, refused-row, without-room, with-room, without-row, with_row}

module _ (s out : List ℕ) where
  by_end : (p : Planned) → Ends 32 by_density s p → outcome_of s out ≡ by_plan p out → 0 < (outcome_of s out).verdict.number → (outcome_of s out).out ≡ out
  unfolding laid_plan
  by_end p (refuses l) q h = ap (λ (o : Outcome). o.out) (q ∙ refused-out _ _ l out)
  by_end p (knots b l) q h = ap (λ (o : Outcome). o.out) (q ∙ refused-out KNOT _ (omega arith) out)
  by_end p (answers b none) q h = absurd (omega (arith, ap (λ (o : Outcome). o.verdict.number) q))

  pub plan-untouched : 0 < (outcome_of s out).verdict.number → (outcome_of s out).out ≡ out
  plan-untouched h = elim (lt-or-le (length out) 430) [
    | inl l ↦ ap (λ (o : Outcome). o.out) (without-room s out l)
    | inr l ↦ by_end (planned_of s) (ends 32 by_density s) (with-room s out l) h
  ]

module _ (s : List ℕ) (row : List Part) where
  row-by-end : (p : Planned) → Ends 32 by_density s p → row_outcome_of s row ≡ by_row_plan p row → 0 < (row_outcome_of s row).answer.number → (row_outcome_of s row).row ≡ row
  unfolding laid_plan
  row-by-end p (refuses l) q h = ap (λ (o : RowOutcome). o.row) (q ∙ refused-row _ _ l row)
  row-by-end p (knots b l) q h = ap (λ (o : RowOutcome). o.row) (q ∙ refused-row KNOT _ (omega arith) row)
  row-by-end p (answers b none) q h = absurd (omega (arith, ap (λ (o : RowOutcome). o.answer.number) q))

  pub row-untouched : 0 < (row_outcome_of s row).answer.number → (row_outcome_of s row).row ≡ row
  row-untouched h = elim (lt-or-le (length row) 96) [
    | inl l ↦ ap (λ (o : RowOutcome). o.row) (without-row s row l)
    | inr l ↦ row-by-end (planned_of s) (ends 32 by_density s) (with_row s row l) h
  ]
