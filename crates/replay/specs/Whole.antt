-- DEMAND 3 OF THE PUBLIC CALLS: from a book's bytes and what was lent, through what a reader finds there afterwards, to the machine.
use Rattle.std.specs.Prelude.{◌≡◌, take, drop}
use Rattle.std.proofs.Common.{◌∙◌, arith}
use Rattle.std.proofs.Math.Path.{ap}
use mathlib.Core.List.{List}
use Prim.Native.Nat.{ℕ, ◌+◌, ◌*◌, ◌<◌, ◌≤◌}
use Rattle.std.proofs.Math.ListN.{length, get_or}
use Rattle.std.proofs.Math.Seq.{take-append_seam}
use Rattle.laws.specs.Stores.{over}
use Rattle.book.specs.Format.{book_of}
use Rattle.accepted.specs.Layout.{Bytes}
use Rattle.gus.specs.declared.Part.{Part}
use Rattle.gus.specs.Choice.{by_density}
use Rattle.gus.specs.Plan.{Answer}
use Rattle.opening.specs.Planned.{view_from, answer_from}
use Rattle.planner.specs.LaidOut.{empty_part}
use Rattle.planner.specs.Planned.{laid_plan, refused_plan}
use Rattle.ilhuepatl.specs.Answer.{answer_bytes}
use Rattle.ilhuepatl.specs.Calls.{Outcome, by_plan, outcome_of}
use Rattle.ilhuepatl.specs.Rows.{RowOutcome, row_outcome_of, by_plan as by_row_plan}
use Rattle.replay.specs.Machine.{machine_from}
use Rattle.replay.specs.Sentences.{Demand3}
use Rattle.replay.specs.ReadBack.{length_at, version_at, read_answer, read_row}
use Rattle.replay.specs.Reads.{victims-whole, parts_whole}
use Rattle.replay.specs.OneOfEach.{OneOfEach}
use Rattle.planner.specs.Ends.{knot_in}
use Rattle.replay.specs.Lent.{refused-out, refused-row}

-- what is left in the output, and in the row
abbrev pub after : List ℕ → List ℕ → List ℕ
after s out = (outcome_of s out).out

abbrev pub row_after : List ℕ → List Part → List Part
row_after s row = (row_outcome_of s row).row

-- A READ ANSWER is the one that 000 gives under 01, of an accepted book without a knot, and a machine that follows it keeps demand 3
pub record Answers (s : List ℕ) (read : Answer) : Type 0 where
  pub accepted : (book_of s).number ≡ 0
  pub unknotted : 32 ≤ knot_in s
  pub is : read ≡ answer_from (book_of s)
  pub victims : OneOfEach (view_from (book_of s)) read.victims
  pub keeps : Demand3 by_density (machine_from (book_of s) read.victims) read.plan

-- WHAT A CALLER HAS whose book was not refused: in the bytes of the output
pub record Certain (s out : List ℕ) : Type 0 where
  pub answer : Answers s (read_answer (after s out))
  pub length_is : length_at (after s out) ≡ 14 + length (read_answer (after s out)).victims + 4 * length (read_answer (after s out)).plan.parts
  pub version_is : version_at (after s out) ≡ 1
  -- "Later output bytes keep their values."
  pub later : (k : ℕ) → length_at (after s out) ≤ k → get_or (after s out) k 0 ≡ get_or out k 0
  pub same_size : length (after s out) ≡ length out
  pub bytes : Bytes out → Bytes (after s out)
  pub written : after s out ≡ over (answer_bytes (laid_plan (answer_from (book_of s)))) out

-- and in a row
pub record CertainRow (s : List ℕ) (row : List Part) : Type 0 where
  pub answer : Answers s (read_row (row_outcome_of s row))
  -- "records after the last part keep theirs"
  pub later : (k : ℕ) → (row_outcome_of s row).answer.count ≤ k → get_or (row_after s row) k empty_part ≡ get_or row k empty_part
  pub same_size : length (row_after s row) ≡ length row

-- a refusal's number is not 0
pub not-refused : (s out : List ℕ) (number place : ℕ) → 0 < number → outcome_of s out ≡ by_plan (refused_plan number place) out → (outcome_of s out).verdict.number ≡ 0 → ⊥
not-refused s out number place l q e = omega (arith, ap (λ (o : Outcome). o.verdict.number) (q ∙ refused-out number place l out))

pub row-not-refused : (s : List ℕ) (row : List Part) (number place : ℕ) → 0 < number → row_outcome_of s row ≡ by_row_plan (refused_plan number place) row → (row_outcome_of s row).answer.number ≡ 0 → ⊥
row-not-refused s row number place l q e = omega (arith, ap (λ (o : RowOutcome). o.answer.number) (q ∙ refused-row number place l row))

pub row_read : (a : Answer) (row : List Part) → read_row (by_row_plan (laid_plan a) row) ≡ a
unfolding read_row laid_plan over
row_read a row = λ i. record {
  victims = victims-whole a i;
  plan = record {
    parts = (ap (λ (l : List Part). take (length a.plan.parts) (over l row)) (parts_whole a) ∙ take-append_seam a.plan.parts (drop (length a.plan.parts) row)) i;
    rounds = a.plan.rounds;
    total = a.plan.total;
    end = a.plan.end;
  };
}
