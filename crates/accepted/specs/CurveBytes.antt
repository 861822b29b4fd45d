-- The bytes of one curve are accepted exactly when they keep a curve's rules and nothing follows; and then their worth is that of the curve that they are.
use Rattle.std.specs.Prelude.{ℕ, ◌≡◌, refl, List, length}
use native.Mathlib.Omega.{arith}
use Rattle.std.proofs.Common.{ap, lt-ltb}
use Rattle.std.proofs.Math.Logic.{inl, inr}
use Rattle.laws.specs.Search.{lt-or-le}
use Rattle.cursor.specs.Field.{value_at, got_at}
use Rattle.curve.specs.Layout.{piece_place, curve_at, curve_end}
use Rattle.curve.specs.Question.{worth_from}
use Rattle.book.specs.Read.{CurveRead}
use Rattle.book.specs.CurveWorth.{alone_read, curve_worth}
use Rattle.accepted.specs.Fields.{onward}
use Rattle.accepted.specs.Layout.{Bytes}
use Rattle.accepted.specs.Curves.{CurveKept, curve-got, curve-passes}
use Rattle.accepted.specs.Exactly.{tail-got}

-- a curve that stands alone
pub record AloneKept (s : List ℕ) : Type 0 where
  pub kept : CurveKept s 0
  pub all : curve_end s 0 ≡ length s

module _ (s : List ℕ) where
  -- ---- and back
  pub alone-got : Bytes s → AloneKept s → (alone_read s).number ≡ 0
  alone-got b a =
      let r = got_at 0 0 0 in
      let z = ap (λ (x : CurveRead). x.reading) (curve-got s r 0 (onward refl refl) (curve-passes s 0 b a.kept)) in
      rw (z, tail-got s (got_at (piece_place 0 (value_at s 0 1)) 4 (curve_at s 0).end) (curve_end s 0) (onward refl refl) a.all) refl

  module _ (t : ℕ) where
    pub unrefused : (curve_worth s t).number ≡ 0 → (alone_read s).number ≡ 0
    unfolding curve_worth
    unrefused h = elim (lt-or-le 0 (alone_read s).number) [
      | inl l ↦ rw (lt-ltb 0 (alone_read s).number l) at h
      | inr l ↦ omega arith
    ]

    pub refused-not : (alone_read s).number ≡ 0 → curve_worth s t ≡ record { number = 0; place = 0; worth = worth_from s 0 t }
    unfolding curve_worth
    refused-not e = rw e
