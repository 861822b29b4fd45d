-- What the public calls answer, verdict and lent bytes together (01, "The answer", "What a refusal says").
use Rattle.std.specs.Prelude.{true, false, cond, List, ℕ, ◌+◌, ◌*◌, ◌%◌, ltb, length, ℤ, Option, None, Some}
use Rattle.laws.specs.Stores.{over}
use Rattle.cursor.specs.Refusal.{ROOM}
use Rattle.book.specs.Read.{Found, CurveWorth}
use Rattle.gus.specs.declared.Part.{Part}
use Rattle.planner.specs.Plans.{Planned, FirstPart}
use Rattle.planner.specs.Planned.{planned_of}
use Rattle.ilhuepatl.specs.Verdict.{Verdict}
use Rattle.ilhuepatl.specs.Answer.{bits, answer_bytes}

pub record Outcome : Type 0 where
  pub verdict : Verdict
  pub out : List ℕ

abbrev pub verdict_of : ℕ → ℕ → Verdict
verdict_of number place = record { number = number; place = place }

-- a refusal writes nothing
abbrev pub by_plan : Planned → List ℕ → Outcome
by_plan p out =
    elim (ltb 0 p.number) [
      | true ↦ record { verdict = verdict_of p.number p.place; out = out }
      | false ↦ record { verdict = verdict_of 0 0; out = over (answer_bytes p) out }
    ]

-- ROOM: "output under 430 bytes", before all else
unfoldable pub outcome_of : List ℕ → List ℕ → Outcome
outcome_of book out =
    elim (ltb (length out) 430) [
      | true ↦ record { verdict = verdict_of ROOM 0; out = out }
      | false ↦ by_plan (planned_of book) out
    ]

-- a verdict in one number, for C: 0, or the refusal's number and, in the lower 32 bits, its place
unfoldable pub word : Verdict → ℕ
word v = v.number * 4294967296 + v.place % 4294967296

-- where a record stands, in one number, for C: a refusal as above, or start and end of 16 bits each
unfoldable pub record_word : Found → ℕ
record_word f =
    elim (ltb 0 f.number) [
      | true ↦ word (verdict_of f.number f.place)
      | false ↦ f.start % 65536 * 65536 + f.end % 65536
    ]

-- a part in one number, for C: the job in bits 24 to 31, the mode in bits 16 to 23, the time in bits 0 to 15
unfoldable pub part_word : Part → ℕ
part_word p = p.job * 16777216 + cond p.rolling 1 0 * 65536 + p.time

-- the first part in one number, for C: a refusal as above; 0 for nothing; else the part
unfoldable pub first_word : FirstPart → ℕ
first_word f =
    elim (ltb 0 f.number) [
      | true ↦ word (verdict_of f.number f.place)
      | false ↦ elim f.some [ true ↦ part_word f.part | false ↦ 0 ]
    ]

-- a worth in 32 bits, for C. A worth is at most a million away from 0, so that most numbers below 2 ^ 32 are no worth's; the one farthest from
-- all of them, 2 ^ 31, is none (R-7)
abbrev pub worth_bits : Option ℤ → ℕ
worth_bits None = 2147483648
worth_bits (Some z) = bits z

-- a curve's worth in one number, for C: a refusal as above, or the worth
unfoldable pub word_of_worth : CurveWorth → ℕ
word_of_worth w =
    elim (ltb 0 w.number) [
      | true ↦ word (verdict_of w.number w.place)
      | false ↦ worth_bits w.worth
    ]
