-- `book::pieces::piece_judged` meets its contract.
use Prim.Native.Nat.{ℕ}
use mathlib.Core.Path.{◌≡◌, refl, sym, ◌∙◌}
use mathlib.Core.List.{List}
use Rattle.std.specs.Prelude.{Result, Ok, Err}
use Rattle.curve.specs.declared.Piece.{Piece}
use Rattle.curve.specs.Layout.{piece_from}
use Rattle.cursor.specs.Reading.{Reading}
use Rattle.cursor.specs.declared.FieldRead.{FieldRead}
use Rattle.cursor.specs.declared.Refusal.{Refusal}
use Rattle.cursor.specs.Field.{field_of}
use Rattle.cursor.specs.Step.{stands_at}
use Rattle.cursor.specs.Answer.{got, Refused, Says}
use Rattle.cursor.proofs.Says.{at_ok, at_err}
use Rattle.book.specs.Format.{start_read, signed_read, piece_read}
use Rattle.book.specs.Judging.{PieceJudged}
use Rattle.book.proofs.Stops.{by-err, signed-stays}
use Rattle.book.proofs.pieces.piece_judged.Goals as goal

-- a signed number after a field that was read
signed-after : (s : List ℕ) (n most high : ℕ) {e : Reading} {f : FieldRead} → e ≡ got f → signed_read s n most high e ≡ signed_read s n most high (stands_at f.next)
unfolding signed_read field_of
signed-after s n most high before = rw before refl

-- the lines of `piece_read`, each said of what the code has read by then
module _ (s : List ℕ) (low : ℕ) (last : Piece) (at : ℕ) where
  abbrev start : Reading
  start = start_read s low last (stands_at at)

  abbrev value : Reading
  value = signed_read s 4 1000000 4294967295 start

  by-start : {d : Refusal} → Refused start d → PieceJudged s low last at (Err d)
  unfolding piece_read
  by-start met = signed-stays s _ _ _ (signed-stays s _ _ _ met)

  module _ {f : FieldRead} (first : start ≡ got f) {o₂ : Result FieldRead Refusal} (says₂ : Says (signed_read s 4 1000000 4294967295 (stands_at f.next)) 4294967295 o₂) where
    by-value : {d : Refusal} → o₂ ≡ Err d → PieceJudged s low last at (Err d)
    unfolding piece_read
    by-value was = signed-stays s _ _ _ (rw (signed-after s 4 1000000 4294967295 first) (at_err _ says₂ was))

    valued : {g : FieldRead} → o₂ ≡ Ok g → value ≡ got g
    valued was = signed-after s 4 1000000 4294967295 first ∙ (at_ok _ says₂ was).0

  module _ {f g : FieldRead} (first : start ≡ got f) (second : value ≡ got g) {o₃ : Result FieldRead Refusal} (says₃ : Says (signed_read s 2 1000 65535 (stands_at g.next)) 65535 o₃) where
    by-slope : {d : Refusal} → o₃ ≡ Err d → PieceJudged s low last at (Err d)
    unfolding piece_read
    by-slope was = rw (signed-after s 2 1000 65535 second) (at_err _ says₃ was)

    judged : {h : FieldRead} {p : Piece} → o₃ ≡ Ok h → p ≡ piece_from f.value g.value h.value → PieceJudged s low last at (Ok (p, h))
    unfolding piece_read
    judged {h} was made =
        let third : signed_read s 2 1000 65535 value ≡ got h = signed-after s 2 1000 65535 second ∙ (at_ok _ says₃ was).0 in
        (third, (λ i. piece_from (first i).value (second i).value (third i).value) ∙ sym made)

pub returns-in_err-start : goal.returns-in_err-start
returns-in_err-start c = let a = c.args in rw (by-err _ c.from_residual.ensures.1) (by-start a.s.now a.low a.last a.at (at_err 2147483647 c.start_read.ensures c.in_err-start.was))

pub returns-in_err-value : goal.returns-in_err-value
returns-in_err-value c =
    let a = c.args in
    let first = (at_ok 2147483647 c.start_read.ensures c.in_ok-start.was).0 in
    rw (by-err _ c.from_residual-in_err-value.ensures.1) (by-value a.s.now a.low a.last a.at first c.signed_read.ensures c.in_err-value.was)

pub returns-in_err-slope : goal.returns-in_err-slope
returns-in_err-slope c =
    let a = c.args in
    let first = (at_ok 2147483647 c.start_read.ensures c.in_ok-start.was).0 in
    let second = valued a.s.now a.low a.last a.at first c.signed_read.ensures c.in_ok-value.was in
    rw (by-err _ c.from_residual-in_err-slope.ensures.1) (by-slope a.s.now a.low a.last a.at first second c.signed_read-2.ensures c.in_err-slope.was)

pub returns : goal.returns
returns c =
    let a = c.args in
    let first = (at_ok 2147483647 c.start_read.ensures c.in_ok-start.was).0 in
    let second = valued a.s.now a.low a.last a.at first c.signed_read.ensures c.in_ok-value.was in
    judged a.s.now a.low a.last a.at first second c.signed_read-2.ensures c.in_ok-slope.was c.piece_from-piece.ensures
