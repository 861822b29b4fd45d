-- What rests on specs/CurveBytes.antt.
use Rattle.std.specs.Prelude.{ℕ, ◌≤◌, ◌≡◌, refl, ◌↔◌, List, nat_abs}
use Rattle.std.proofs.Common.{ap, ◌∙◌}
use Rattle.cursor.specs.Field.{value_at, got_at}
use Rattle.curve.specs.Worth.{worth_at, amount}
use Rattle.curve.proofs.Bound.{worth-within}
use Rattle.curve.specs.Layout.{piece_place, curve_at, curve_end}
use Rattle.curve.specs.Question.{stands}
use Rattle.book.specs.Read.{CurveRead, CurveWorth}
use Rattle.book.specs.Format.{curve_read}
use Rattle.book.specs.CurveWorth.{alone_read, curve_worth}
use Rattle.accepted.specs.Fields.{onward}
use Rattle.accepted.specs.Sticks.{unrefused-before, tail-sticks}
use Rattle.accepted.specs.Layout.{Bytes}
use Rattle.accepted.specs.Curves.{curve-got, curve-good}
use Rattle.accepted.proofs.Curves.{curve-back}
use Rattle.accepted.specs.Exactly.{tail-back}
use Rattle.accepted.specs.CurveBytes.{AloneKept, alone-got, refused-not, unrefused}

module _ (s : List ℕ) where
  -- ---- from the reading to the rules
  alone-back : (alone_read s).number ≡ 0 → AloneKept s
  alone-back h =
      let r = got_at 0 0 0 in
      let read : (curve_read s r).reading.number ≡ 0 = unrefused-before (tail-sticks s (curve_read s r).reading) h in
      let k = curve-back s r 0 (onward refl refl) read in
      let z = ap (λ (x : CurveRead). x.reading) (curve-got s r 0 (onward refl refl) k) in
      record { kept = curve-good s 0 k; all = tail-back s (got_at (piece_place 0 (value_at s 0 1)) 4 (curve_at s 0).end) (curve_end s 0) (onward refl refl) (rw z at h) }

  module _ (t : ℕ) where
    -- ACCEPTED EXACTLY
    pub curve-exactly : Bytes s → ((curve_worth s t).number ≡ 0) ↔ AloneKept s
    curve-exactly b = (λ h. alone-back ((unrefused s t) h), λ a. ap (λ (w : CurveWorth). w.number) ((refused-not s t) ((alone-got s) b a)))

    -- and the worth is that of the curve that the bytes are
    pub worth-alone : (curve_worth s t).number ≡ 0 → (curve_worth s t).worth ≡ worth_at (curve_at s 0) t
    worth-alone h =
        let e = (unrefused s t) h in
        let a = alone-back e in
        ap (λ (w : CurveWorth). w.worth) ((refused-not s t) e) ∙ stands s 0 a.kept.good.allowed.few a.kept.fits t

    -- which is at most a million away from 0
    pub worth-alone-small : (curve_worth s t).number ≡ 0 → nat_abs (amount (curve_worth s t).worth) ≤ 1000000
    worth-alone-small h = rw (worth-alone h) (worth-within (alone-back ((unrefused s t) h)).kept.good.allowed t)
