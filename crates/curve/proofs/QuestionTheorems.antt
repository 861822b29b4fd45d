-- What rests on specs/Question.antt.
use Rattle.std.specs.Prelude.{ℕ, ◌<◌, ◌≤◌, List, ◌≡◌, length, None}
use Rattle.std.proofs.Common.{arith, ◌∙◌}
use Rattle.cursor.specs.Field.{value_at}
use Rattle.curve.specs.declared.Piece.{Piece}
use Rattle.curve.specs.Worth.{worth_in}
use Rattle.curve.specs.Walk.{worth-after}
use Rattle.curve.proofs.Walk.{walk_none}
use Rattle.curve.specs.Layout.{curve_at, curve_end}
use Rattle.curve.specs.Question.{Back, stands, worth_from}

module _ (s : List ℕ) (p : ℕ) where
  module _ (few : value_at s p 1 ≤ 8) (h : curve_end s p ≤ length s) (t : ℕ) where
    pub stands_after : (curve_at s p).end < t → worth_from s p t ≡ None
    stands_after l = (stands s p few h t) ∙ worth-after (curve_at s p) t l

module _ {pieces : List Piece} {t n first : ℕ} where
  module _ {at : ℕ} (b : Back pieces t n first at) where
    pub back_none : at ≤ first → None ≡ worth_in pieces t n
    back_none h = walk_none b.walking (omega (arith, b.here))
