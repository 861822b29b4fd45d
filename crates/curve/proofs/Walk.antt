-- What rests on specs/Walk.antt.
use Rattle.std.specs.Prelude.{◌≡◌, List, None}
use Rattle.std.proofs.Common.{sym, ◌∙◌}
use Prim.Native.Nat.{ℕ, ◌≤◌}
use Rattle.curve.specs.declared.Piece.{Piece}
use Rattle.curve.specs.Worth.{worth_in}
use Rattle.curve.specs.Walk.{Walking, none}

module _ {pieces : List Piece} {t n : ℕ} where
  module _ {k : ℕ} (w : Walking pieces t n k) where
    pub walk_none : k ≤ 0 → None ≡ worth_in pieces t n
    walk_none h = sym (none pieces t k h) ∙ w.same
