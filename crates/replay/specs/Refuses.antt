-- "The first one met is given, and none is given otherwise", of the calls themselves: when a plan call refuses, with which number, at which place.
use Rattle.std.specs.Prelude.{◌≡◌, refl, ◌⊎◌, ◌↔◌, List, ℕ, ◌<◌, ◌≤◌}
use Rattle.std.proofs.Common.{◌∙◌, arith}
use Rattle.std.proofs.Math.Logic.{inl, inr}
use Rattle.std.proofs.Math.ListN.{length}
use Rattle.laws.specs.Search.{lt-or-le}
use Rattle.cursor.specs.Refusal.{ROOM, KNOT}
use Rattle.book.specs.Format.{book_of}
use Rattle.accepted.specs.Layout.{Bytes}
use Rattle.accepted.specs.Kept.{BookKept}
use Rattle.accepted.proofs.Exactly.{accepted-exactly}
use Rattle.gus.specs.declared.Part.{Part}
use Rattle.gus.specs.Choice.{by_density}
use Rattle.invariants.specs.Knot.{Knotted}
use Rattle.invariants.proofs.Knot.{knot-is}
use Rattle.invariants.proofs.KnotExactly.{knot-exactly}
use Rattle.opening.specs.Planned.{view_from}
use Rattle.planner.specs.Plans.{Planned}
use Rattle.planner.specs.Planned.{laid_plan, refused_plan, planned_of}
use Rattle.ilhuepatl.specs.Verdict.{Verdict}
use Rattle.ilhuepatl.specs.Calls.{verdict_of, by_plan, outcome_of}
use Rattle.ilhuepatl.specs.Rows.{row_outcome_of, by_plan as by_row_plan}
use Rattle.planner.specs.Ends.{knot_in, Ends, refuses, knots, answers, ends}
use Rattle.replay.specs.Lent.{refused-out, refused-row, without-room, with-room, without-row, with_row}

-- "a wait circle has no member that can be rolled back", and job i is on it
abbrev pub KnottedIn : List ℕ → ℕ → Type 0
KnottedIn s i = Knotted (view_from (book_of s)) i

-- what stands in the way of an answer, where what was lent has `room` places and `least` are asked for
abbrev pub InTheWay : List ℕ → ℕ → ℕ → Type 0
InTheWay s room least = (room < least) ⊎ (BookKept s → ⊥) ⊎ (BookKept s × ((i : ℕ) × KnottedIn s i))

-- and an answer's book: one that keeps every rule and has no such circle, where there is room
abbrev pub Clear : List ℕ → ℕ → ℕ → Type 0
Clear s room least = (least ≤ room) × BookKept s × ((i : ℕ) → KnottedIn s i → ⊥)

pub record Refuses (s : List ℕ) (room least : ℕ) (v : Verdict) : Type 0 where
  -- EXACTLY THEN it refuses,
  pub exactly : (0 < v.number) ↔ InTheWay s room least
  -- for want of room before all else,
  pub no_room : room < least → v ≡ verdict_of ROOM 0
  -- then as the reader does,
  pub broken : least ≤ room → (BookKept s → ⊥) → v ≡ verdict_of (book_of s).number (book_of s).place
  -- then at the lowest job on any circle that nobody can leave;
  pub knotted : (i : ℕ) → least ≤ room → BookKept s → KnottedIn s i → (v.number ≡ KNOT) × KnottedIn s v.place × (v.place ≤ i)
  -- "and none is given otherwise"
  pub otherwise : Clear s room least → v ≡ verdict_of 0 0

-- the ways, by the reader's number and the knot
pub data Given (s : List ℕ) (room least : ℕ) : Verdict → Type 0 where
  small : room < least → Given s room least (verdict_of ROOM 0)
  reader : least ≤ room → 0 < (book_of s).number → Given s room least (verdict_of (book_of s).number (book_of s).place)
  knot : least ≤ room → (book_of s).number ≡ 0 → knot_in s < 32 → Given s room least (verdict_of KNOT (knot_in s))
  none : least ≤ room → (book_of s).number ≡ 0 → 32 ≤ knot_in s → Given s room least (verdict_of 0 0)

module _ (s : List ℕ) (b : Bytes s) where
  pub kept : (book_of s).number ≡ 0 → BookKept s
  kept e = (accepted-exactly s b).0 e

  pub not-kept : 0 < (book_of s).number → BookKept s → ⊥
  not-kept l k = omega (arith, (accepted-exactly s b).1 k)

  abbrev knotting : (knot_in s < 32) ↔ ((i : ℕ) × KnottedIn s i)
  knotting = knot-exactly (view_from (book_of s)) (book_of s).now

  module _ {room least : ℕ} where
    pub clear : least ≤ room → (book_of s).number ≡ 0 → 32 ≤ knot_in s → InTheWay s room least → ⊥
    clear h e l (inl w) = omega arith
    clear h e l (inr (inl w)) = w (kept e)
    clear h e l (inr (inr w)) = omega (arith, knotting.1 w.1)

    pub given-refuses : {v : Verdict} → Given s room least v → Refuses s room least v
    given-refuses (small h) = record {
      exactly = (λ l. inl h, λ w. omega arith);
      no_room = λ l. refl;
      broken = λ l n. absurd (omega arith);
      knotted = λ i l k x. absurd (omega arith);
      otherwise = λ x. absurd (omega (arith, x.0));
    }
    given-refuses (reader h l) = record {
      exactly = (λ x. inr (inl (not-kept l)), λ w. l);
      no_room = λ x. absurd (omega arith);
      broken = λ x n. refl;
      knotted = λ i x k y. absurd (not-kept l k);
      otherwise = λ x. absurd (not-kept l x.1);
    }
    given-refuses (knot h e l) = record {
      exactly = (λ x. inr (inr (kept e, knotting.0 l)), λ w. omega arith);
      no_room = λ x. absurd (omega arith);
      broken = λ x n. absurd (n (kept e));
      knotted = λ i x k y. let z = knot-is (view_from (book_of s)) (book_of s).now l in (refl, z.0, omega (arith, z.1 i y));
      otherwise = λ x. absurd (x.2 (knot_in s) (knot-is (view_from (book_of s)) (book_of s).now l).0);
    }
    given-refuses (none h e l) = record {
      exactly = (λ x. absurd (omega arith), λ w. absurd (clear h e l w));
      no_room = λ x. absurd (omega arith);
      broken = λ x n. absurd (n (kept e));
      knotted = λ i x k y. absurd (omega (arith, knotting.1 (i, y)));
      otherwise = λ x. refl;
    }

-- A LENT OUTPUT of 430 bytes
module _ (s out : List ℕ) where
  pub given_out : Given s (length out) 430 (outcome_of s out).verdict
  unfolding laid_plan
  given_out = elim (lt-or-le (length out) 430) [
    | inl h ↦ rw (without-room s out h) (small h)
    | inr h ↦ by h (planned_of s) (ends 32 by_density s) (with-room s out h)
  ]
    where
      by : 430 ≤ length out → (p : Planned) → Ends 32 by_density s p → outcome_of s out ≡ by_plan p out → Given s (length out) 430 (outcome_of s out).verdict
      by h p (refuses l) q = rw (q ∙ refused-out (book_of s).number (book_of s).place l out) (reader h l)
      by h p (knots e l) q = rw (q ∙ refused-out KNOT (knot_in s) (omega arith) out) (knot h e l)
      by h p (answers e l) q = rw q (none h e l)

-- A LENT ROW of 96 records
module _ (s : List ℕ) (row : List Part) where
  abbrev row_verdict : Verdict
  row_verdict = verdict_of (row_outcome_of s row).answer.number (row_outcome_of s row).answer.place

  pub given-row : Given s (length row) 96 row_verdict
  unfolding laid_plan
  given-row = elim (lt-or-le (length row) 96) [
    | inl h ↦ rw (without-row s row h) (small h)
    | inr h ↦ by h (planned_of s) (ends 32 by_density s) (with_row s row h)
  ]
    where
      by : 96 ≤ length row → (p : Planned) → Ends 32 by_density s p → row_outcome_of s row ≡ by_row_plan p row → Given s (length row) 96 row_verdict
      by h p (refuses l) q = rw (q ∙ refused-row (book_of s).number (book_of s).place l row) (reader h l)
      by h p (knots e l) q = rw (q ∙ refused-row KNOT (knot_in s) (omega arith) row) (knot h e l)
      by h p (answers e l) q = rw q (none h e l)

-- NOTHING LENT: "Calls that lend no output never give ROOM"
pub given-plan : (s : List ℕ) → Given s 0 0 (verdict_of (planned_of s).number (planned_of s).place)
unfolding laid_plan refused_plan
given-plan s = by (planned_of s) (ends 32 by_density s)
  where
    by : (p : Planned) → Ends 32 by_density s p → Given s 0 0 (verdict_of p.number p.place)
    by p (refuses l) = reader (omega arith) l
    by p (knots e l) = knot (omega arith) e l
    by p (answers e l) = none (omega arith) e l
