-- THE NUMBER THAT C GETS: what it says, and that nothing of it is lost.
use Rattle.std.specs.Prelude.{◌≡◌, refl, Bool, true, false, cond, ◌↔◌, List, [], ◌∷◌, ℕ, ◌+◌, ◌*◌, ◌/◌, ◌%◌, ◌<◌, ◌≤◌, length}
use Rattle.std.proofs.Common.{arith}
use Rattle.book.specs.Read.{Found}
use Rattle.book.specs.Format.{book_of}
use Rattle.accepted.specs.Layout.{Bytes, two_bytes, jobs_at}
use Rattle.accepted.specs.Kept.{BookKept}
use Rattle.accepted.proofs.Exactly.{book-back}
use Rattle.accepted.specs.Reach.{refusal-near}
use Rattle.invariants.proofs.KnotExactly.{knot-exactly}
use Rattle.gus.specs.declared.Part.{Part}
use Rattle.opening.specs.Planned.{view_from, answer_from}
use Rattle.planner.specs.Plans.{FirstPart}
use Rattle.ilhuepatl.specs.Verdict.{Verdict}
use Rattle.ilhuepatl.specs.Calls.{verdict_of, outcome_of, word, record_word, part_word, first_word}
use Rattle.planner.specs.Ends.{knot_in}
use Rattle.replay.specs.Refuses.{KnottedIn, InTheWay, Clear, Given, small, reader, knot, none}

pub word_number : (v : Verdict) → word v / 4294967296 ≡ v.number
unfolding word
word_number v = omega arith

pub word-place : (v : Verdict) → v.place < 4294967296 → word v % 4294967296 ≡ v.place
unfolding word
word-place v h = omega arith

pub no_word : word (verdict_of 0 0) ≡ 0
unfolding word
no_word = refl

pub no_knot : (s : List ℕ) → 32 ≤ knot_in s → (i : ℕ) → KnottedIn s i → ⊥
no_knot s l i y = omega (arith, (knot-exactly (view_from (book_of s)) (book_of s).now).1 (i, y))

-- a verdict's place has 32 bits
module _ (s : List ℕ) (b : Bytes s) {room least : ℕ} where
  pub short : {v : Verdict} → Given s room least v → v.place < 4294967296
  short (small h) = omega arith
  short (reader h l) = omega (arith, (refusal-near s).place)
  short (knot h e l) = omega arith
  short (none h e l) = omega arith

-- THE PLAN CALL
pub record PlanWord (s out : List ℕ) : Type 0 where
  pub number : word (outcome_of s out).verdict / 4294967296 ≡ (outcome_of s out).verdict.number
  pub place : word (outcome_of s out).verdict % 4294967296 ≡ (outcome_of s out).verdict.place
  -- 0 exactly for a book that keeps its rules and has no knot, where there is room
  pub zero : (word (outcome_of s out).verdict ≡ 0) ↔ Clear s (length out) 430

-- THE RECORD QUESTION
-- two numbers of 16 bits, one above the other
parted : (a b w : ℕ) → b ≤ 65535 → a * 65536 + b ≡ w → (w / 65536 ≡ a) × (w % 65536 ≡ b)
parted a b w l e = (omega arith, omega arith)

pub halves : (a b w : ℕ) → a ≤ 65535 → b ≤ 65535 → a % 65536 * 65536 + b % 65536 ≡ w → (w / 65536 ≡ a) × (w % 65536 ≡ b)
halves a b w h l e =
    let x : a % 65536 ≡ a = omega arith in
    let y : b % 65536 ≡ b = omega arith in
    parted a b w l (rw (x, y) at e)

pub record RecordWord (s : List ℕ) (job : ℕ) (f : Found) : Type 0 where
  -- the upper half is above 0 exactly for a book that breaks a rule, and then it is the refusal's number, and the lower half its place
  pub exactly : (0 < record_word f / 4294967296) ↔ (BookKept s → ⊥)
  pub refusal : (BookKept s → ⊥) → (record_word f / 4294967296 ≡ (book_of s).number) × (record_word f % 4294967296 ≡ (book_of s).place)
  -- otherwise it is where the record starts and ends, 16 bits each
  pub record_place : BookKept s → (record_word f / 65536 ≡ f.start) × (record_word f % 65536 ≡ f.end)
  -- 0 exactly where a book that keeps its rules has no such job
  pub zero : (record_word f ≡ 0) ↔ (BookKept s × (jobs_at s ≤ job))

module _ (s : List ℕ) (job : ℕ) (b : Bytes s) where
  pub jobs_are : (book_of s).number ≡ 0 → (book_of s).jobs ≡ jobs_at s
  jobs_are e = (book-back s e).1.jobs

  pub few_bytes : (book_of s).number ≡ 0 → length s ≤ 65535
  few_bytes e = omega (arith, (book-back s e).0.header.size, two_bytes b 0)

-- THE FIRST PART
pub record FirstWord (s : List ℕ) (f : FirstPart) : Type 0 where
  -- the upper half is above 0 exactly for a book that the plan refuses, and then it is the refusal's number, and the lower half its place
  pub exactly : (0 < first_word f / 4294967296) ↔ InTheWay s 0 0
  pub refusal : InTheWay s 0 0 → (first_word f / 4294967296 ≡ f.number) × (first_word f % 4294967296 ≡ f.place)
  -- otherwise it is the first part, whose job, mode and time come back,
  pub part : (p : Part) (ps : List Part) → Clear s 0 0 → (answer_from (book_of s)).plan.parts ≡ p ∷ ps → (first_word f / 16777216 ≡ p.job) × (first_word f / 65536 % 256 ≡ cond p.rolling 1 0) × (first_word f % 65536 ≡ p.time)
  -- and 0 exactly where the plan has no part
  pub zero : (first_word f ≡ 0) ↔ (Clear s 0 0 × ((answer_from (book_of s)).plan.parts ≡ []))

pub part-word : (p : Part) → p.job * 16777216 + cond p.rolling 1 0 * 65536 + p.time ≡ part_word p
unfolding part_word
part-word p = refl

-- three numbers of 8, 8 and 16 bits, one above the other
pub three : (job mode time : ℕ) → mode ≤ 255 → time ≤ 65535 → (w : ℕ) → job * 16777216 + mode * 65536 + time ≡ w → (w / 16777216 ≡ job) × (w / 65536 % 256 ≡ mode) × (w % 65536 ≡ time)
three job mode time m t w e = (omega arith, omega arith, omega arith)

pub mode-short : (b : Bool) → cond b 1 0 ≤ 255
mode-short true = omega arith
mode-short false = omega arith
