-- What rests on specs/CurveRefusals.antt.
use Rattle.std.specs.Prelude.{ℕ, List}
use Rattle.std.proofs.Common.{arith, lt-ltb, le-ltb}
use Rattle.std.proofs.Math.Logic.{inl, inr}
use Rattle.laws.specs.Search.{lt-or-le}
use Rattle.cursor.specs.Field.{got_at}
use Rattle.book.specs.CurveWorth.{alone_read, curve_worth}
use Rattle.accepted.specs.Places.{Placed, Inside, got-inside, tail-inside}
use Rattle.accepted.proofs.Places.{curve-inside}

module _ (s : List ℕ) where
  alone-inside : Inside s (alone_read s)
  alone-inside = tail-inside s _ (curve-inside s (got_at 0 0 0) (got-inside s 0 0 0 (omega arith)))

  module _ (t : ℕ) where
    -- THE PLACE OF A REFUSAL
    pub curve-placed : Placed s (curve_worth s t).number (curve_worth s t).place
    unfolding curve_worth
    curve-placed = elim (lt-or-le 0 (alone_read s).number) [
      | inl l ↦ rw (lt-ltb 0 (alone_read s).number l) (alone-inside.refused l)
      | inr l ↦ rw (le-ltb 0 (alone_read s).number l) (record { within = omega arith; inside = λ x a b. absurd (omega arith) })
    ]
