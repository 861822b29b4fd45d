-- What rests on specs/Before.antt.
use Prim.Native.Nat.{ℕ, ◌≤◌}
use Rattle.std.proofs.Common.{inl, inr, sym, ◌∙◌}
use native.Mathlib.Omega.{arith}
use Rattle.std.specs.Prelude.{List, ◌≡◌, length, None}
use Rattle.laws.specs.Search.{lt-or-le}
use Rattle.cursor.specs.Field.{value_at}
use Rattle.curve.specs.Layout.{piece_place, curve_end}
use Rattle.curve.specs.Question.{worth_from, stands-cut, stands-until}
use Rattle.curve.proofs.QuestionTheorems.{stands_after}
use Rattle.curve.specs.Before.{Backing, back_is, before-cut, before-after, before-until, none, worth_back, worth_before}

module _ {s : List ℕ} {t end n : ℕ} where
  module _ {place left : ℕ} (b : Backing s t end n place left) where
    pub backing-none : left ≤ 0 → None ≡ worth_back s end t n
    backing-none h = sym (none s t place left h) ∙ b.same

module _ (s : List ℕ) (p : ℕ) (few : value_at s p 1 ≤ 8) (h : curve_end s p ≤ length s) (t : ℕ) where
  -- for a curve that stands it is the same question
  pub before-is : worth_before s (piece_place p (value_at s p 1)) (value_at s p 1) t ≡ worth_from s p t
  before-is =
      let n : ℕ = value_at s p 1 in
      let end : ℕ = piece_place p n in
      elim (lt-or-le (value_at s end 4) t) [
        | inl l ↦ before-after s end n t h l ∙ sym (stands_after s p few h t l)
        | inr l ↦ before-until s end n t h l ∙ (back_is s p few h t) n (omega arith) ∙ sym (stands-until s p few h t l)
      ]

-- of a curve or of none
pub before-anywhere : (s : List ℕ) (p t : ℕ) → value_at s p 1 ≤ 8 → worth_before s (piece_place p (value_at s p 1)) (value_at s p 1) t ≡ worth_from s p t
before-anywhere s p t few =
    elim (lt-or-le (length s) (curve_end s p)) [
      | inl cut ↦ before-cut s _ _ t cut ∙ sym (stands-cut s p t cut)
      | inr whole ↦ before-is s p few whole t
    ]
