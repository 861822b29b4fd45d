-- THE FIRST PART OF A PLAN (02, R-2): as the plan has it, as one round makes it, and that these are one.
use Rattle.std.specs.Prelude.{◌≡◌, refl, true, false, List, [], ◌∷◌, ◌++◌, ℕ, suc, ◌<◌, ltb, length, get_or}
use Rattle.std.proofs.Common.{sym, ◌∙◌, arith, lt-ltb, le-ltb}
use Rattle.laws.specs.Fill.{padded}
use Rattle.job.specs.declared.Job.{Job}
use Rattle.cursor.specs.Refusal.{KNOT}
use Rattle.book.specs.Format.{book_of}
use Rattle.gus.specs.declared.Part.{Part}
use Rattle.gus.specs.View.{Pay, view_of}
use Rattle.gus.specs.Choice.{Way, by_density}
use Rattle.gus.specs.Victims.{victims_of, knot_of, settled}
use Rattle.gus.specs.Plan.{Answer, answer_to}
use Rattle.opening.specs.Start.{jobs_from, pay_from}
use Rattle.planner.specs.Plans.{Planned, FirstPart}
use Rattle.planner.specs.LaidOut.{empty_part}
use Rattle.planner.specs.Round.{round_of, rounds-begin}
use Rattle.planner.specs.Planned.{laid_plan, refused_plan, planned_to, planned_of}
use Rattle.planner.specs.Ends.{knot_in, Ends, refuses, knots, answers, ends}

-- AS THE PLAN HAS IT: its refusal, or whether it has a part, and its first part; where there is none, the empty one
unfoldable pub first_in : Planned → FirstPart
first_in p = record { number = p.number; place = p.place; some = ltb 0 p.count; part = get_or p.parts 0 empty_part }

abbrev pub refused_first : ℕ → ℕ → FirstPart
refused_first number place = record { number = number; place = place; some = false; part = empty_part }

abbrev pub nothing : FirstPart
nothing = record { number = 0; place = 0; some = false; part = empty_part }

abbrev pub found : Part → FirstPart
found p = record { number = 0; place = 0; some = true; part = p }

unfoldable pub first_of : List Part → FirstPart
first_of [] = nothing
first_of (p ∷ ps) = found p

-- AS ONE ROUND MAKES IT: "settles the circles, makes one round, and answers the first part or nothing"
unfoldable pub first_made : Way → Pay → List Job → ℕ → FirstPart
first_made way pay js now = let left = settled js (victims_of (view_of pay js) now) in first_of (round_of way (view_of pay left) now).parts

-- with the reader's refusals first, and then KNOT
unfoldable pub first_by : Way → List ℕ → FirstPart
first_by way s =
    let b = book_of s in
    let knot = knot_of (view_of (pay_from b) (jobs_from b)) b.now in
    elim (ltb 0 b.number) [
      | true ↦ refused_first b.number b.place
      | false ↦ elim (ltb knot 32) [ true ↦ refused_first KNOT knot | false ↦ first_made way (pay_from b) (jobs_from b) b.now ]
    ]

-- ---- the two are one

pub refused-first : (number place : ℕ) → first_in (refused_plan number place) ≡ refused_first number place
unfolding first_in refused_plan padded
refused-first number place = refl

pub laid-first : (a : Answer) → first_in (laid_plan a) ≡ first_of a.plan.parts
unfolding first_in laid_plan first_of padded
laid-first a = by a.plan.parts
  where
    by : (ps : List Part) → record { number = 0; place = 0; some = ltb 0 (length ps); part = get_or (padded 96 empty_part ps) 0 empty_part } ≡ first_of ps
    by [] = refl
    by (p ∷ ps) = rw (lt-ltb 0 (length (p ∷ ps)) (omega arith))

-- what follows a round's parts is not the first
first-kept : (ps rest : List Part) → 0 < length ps → first_of (ps ++ rest) ≡ first_of ps
unfolding first_of
first-kept [] rest h = absurd (omega arith)
first-kept (p ∷ ps) rest h = refl

made-first : (way : Way) (pay : Pay) (js : List Job) (now n : ℕ) → first_in (laid_plan (answer_to (suc n) way pay js now)) ≡ first_made way pay js now
unfolding answer_to first_made
made-first way pay js now n =
    laid-first (answer_to (suc n) way pay js now)
    ∙ rounds-begin way pay (settled js (victims_of (view_of pay js) now)) now n (λ ps qs. first_of ps ≡ first_of qs) (λ ps rest h. first-kept ps rest h) refl

-- ONE ROUND TELLS IT, whatever the bytes, the way of choosing and the number of rounds that are planned after it
pub one-round : (way : Way) (n : ℕ) (s : List ℕ) → first_in (planned_to (suc n) way s) ≡ first_by way s
unfolding first_by
one-round way n s = by (planned_to (suc n) way s) (ends (suc n) way s)
  where
    by : (p : Planned) → Ends (suc n) way s p → first_in p ≡ first_by way s
    by p (refuses l) = refused-first (book_of s).number (book_of s).place ∙ rw (lt-ltb 0 (book_of s).number l, first_by)
    by p (knots e l) = refused-first KNOT (knot_in s) ∙ rw (le-ltb 0 (book_of s).number (omega arith), lt-ltb (knot_in s) 32 l, first_by)
    by p (answers e l) = made-first way (pay_from (book_of s)) (jobs_from (book_of s)) (book_of s).now n ∙ rw (le-ltb 0 (book_of s).number (omega arith), le-ltb (knot_in s) 32 l, first_by)

-- so that one round and more have the same refusal and the same first part
pub first-same : (way : Way) (n : ℕ) (s : List ℕ) → first_in (planned_to 1 way s) ≡ first_in (planned_to (suc n) way s)
first-same way n s = one-round way 0 s ∙ sym (one-round way n s)

-- THE WHOLE PLAN'S FIRST PART, by 01's way of choosing
pub first-planned : (s : List ℕ) → first_in (planned_to 1 by_density s) ≡ first_in (planned_of s)
first-planned s = first-same by_density 31 s
