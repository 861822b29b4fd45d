-- THE FIRST PART (02, R-2): "the first part or nothing", and "what the full plan refuses for the book's sake is refused alike".
use Rattle.std.specs.Prelude.{◌≡◌, refl, List, [], ◌∷◌, ℕ, ◌<◌, ◌≤◌}
use Rattle.cursor.specs.Refusal.{KNOT}
use Rattle.book.specs.Format.{book_of}
use Rattle.gus.specs.declared.Part.{Part}
use Rattle.gus.specs.Choice.{by_density}
use Rattle.opening.specs.Planned.{answer_from}
use Rattle.planner.specs.Plans.{Planned, FirstPart}
use Rattle.planner.specs.Planned.{planned_of}
use Rattle.planner.specs.First.{first_in, refused_first, nothing, found, first_of, refused-first, laid-first}
use Rattle.planner.specs.Ends.{knot_in, Ends, refuses, knots, answers, ends}

-- the four ways, by the reader, the knot and the plan of 000 under 01
pub data FirstGiven (s : List ℕ) : FirstPart → Type 0 where
  broken : 0 < (book_of s).number → FirstGiven s (refused_first (book_of s).number (book_of s).place)
  knotted : (book_of s).number ≡ 0 → knot_in s < 32 → FirstGiven s (refused_first KNOT (knot_in s))
  empty : (book_of s).number ≡ 0 → 32 ≤ knot_in s → (answer_from (book_of s)).plan.parts ≡ [] → FirstGiven s nothing
  first : (p : Part) (ps : List Part) → (book_of s).number ≡ 0 → 32 ≤ knot_in s → (answer_from (book_of s)).plan.parts ≡ p ∷ ps → FirstGiven s (found p)

pub first-given : (s : List ℕ) → FirstGiven s (first_in (planned_of s))
unfolding first_of
first-given s = by (planned_of s) (ends 32 by_density s)
  where
    by : (p : Planned) → Ends 32 by_density s p → FirstGiven s (first_in p)
    by p (refuses l) = rw (refused-first (book_of s).number (book_of s).place) (broken l)
    by p (knots e l) = rw (refused-first KNOT (knot_in s)) (knotted e l)
    by p (answers e l) = rw (laid-first (answer_from (book_of s))) (parts (answer_from (book_of s)).plan.parts refl)
      where
        parts : (ps : List Part) → (answer_from (book_of s)).plan.parts ≡ ps → FirstGiven s (first_of ps)
        parts [] q = empty e l q
        parts (p ∷ ps) q = first p ps e l q
