-- How much an answer has at most, for every string of bytes: what a writer of it has to know.
use Rattle.std.specs.Prelude.{List, ℕ, ◌≤◌}
use Rattle.std.proofs.Common.{arith}
use Rattle.cursor.specs.Refusal.{KNOT}
use Rattle.book.specs.Format.{book_of}
use Rattle.gus.specs.Choice.{by_density}
use Rattle.opening.proofs.Opened.{accepted-opened}
use Rattle.planner.specs.Plans.{Planned}
use Rattle.planner.specs.Planned.{laid_plan, refused_plan, planned_of}
use Rattle.planner.specs.Ends.{knot_in, Ends, refuses, knots, answers, ends}

pub record Counted (p : Planned) : Type 0 where
  pub victims : p.victimcount ≤ 32
  pub parts : p.count ≤ 96
  pub rounds : p.rounds ≤ 32

refused-counted : (number place : ℕ) → Counted (refused_plan number place)
unfolding refused_plan
refused-counted number place = record { victims = omega arith; parts = omega arith; rounds = omega arith }

pub counted : (s : List ℕ) → Counted (planned_of s)
unfolding laid_plan
counted s = by (planned_of s) (ends 32 by_density s)
  where
    by : (p : Planned) → Ends 32 by_density s p → Counted p
    by p (refuses l) = refused-counted (book_of s).number (book_of s).place
    by p (knots e l) = refused-counted KNOT (knot_in s)
    by p (answers e l) = let q = (accepted-opened s e).planned l in record { victims = q.victims; parts = q.parts; rounds = q.rounds_most }
