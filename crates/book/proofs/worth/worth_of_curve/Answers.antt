-- `book::worth::worth_of_curve` meets its contract.
use Prim.Native.Nat.{ℕ}
use mathlib.Core.Path.{◌≡◌, refl, ap, ◌∙◌}
use mathlib.Core.List.{List}
use borrow.Author.Tests.{lt-ltb}
use Rattle.std.specs.Prelude.{ℤ, Option, Err, Ok}
use Rattle.cursor.specs.declared.FieldRead.{FieldRead}
use Rattle.cursor.specs.declared.Refusal.{Refusal}
use Rattle.curve.specs.Question.{worth_from}
use Rattle.cursor.specs.Step.{stands_at}
use Rattle.cursor.specs.Field.{got_at}
use Rattle.cursor.specs.Answer.{got, Refused}
use Rattle.cursor.proofs.Says.{at_ok, at_err}
use Rattle.book.specs.Format.{curve_read, tail_read}
use Rattle.book.specs.CurveWorth.{alone_read, curve_worth, worth_answer}
use Rattle.book.proofs.Stops.{by-err, tail-stays}
use Rattle.book.proofs.worth.worth_of_curve.Goals as goal

module _ (s : List ℕ) (t : ℕ) where
  refused : {d : Refusal} → Refused (alone_read s) d → Err d ≡ worth_answer (curve_worth s t)
  unfolding curve_worth worth_answer
  refused {d} met = rw (met.0, lt-ltb 0 d.number met.1, lt-ltb 0 d.number met.1) refl

  alone-after : {f : FieldRead} → (curve_read s (got_at 0 0 0)).reading ≡ got f → alone_read s ≡ tail_read s (got f)
  alone-after read = ap (tail_read s) read

  worthy : {f : FieldRead} {w : Option ℤ} → alone_read s ≡ got f → w ≡ worth_from s 0 t → Ok w ≡ worth_answer (curve_worth s t)
  unfolding curve_worth worth_answer
  worthy last w = rw (last, w) refl

-- from the first byte on
start-at : (s : List ℕ) → curve_read s (stands_at 0) ≡ curve_read s (got_at 0 0 0)
start-at s = refl

pub returns-in_err-curve_judged : goal.returns-in_err-curve_judged
returns-in_err-curve_judged c = rw (by-err _ c.from_residual.ensures.1) (refused c.args.s.now c.args.t (tail-stays c.args.s.now (at_err 2147483647 c.curve_judged.ensures c.in_err-curve_judged.was)))

pub returns-in_err-tail : goal.returns-in_err-tail
returns-in_err-tail c =
    let s = c.args.s.now in
    let read = (at_ok 2147483647 c.curve_judged.ensures c.in_ok-curve_judged.was).0 in
    rw (by-err _ c.from_residual-in_err-tail.ensures.1) (refused s c.args.t (rw (alone-after s c.args.t read) (at_err _ c.tail.ensures c.in_err-tail.was)))

pub returns : goal.returns
returns c =
    let s = c.args.s.now in
    let read = (at_ok 2147483647 c.curve_judged.ensures c.in_ok-curve_judged.was).0 in
    worthy s c.args.t (alone-after s c.args.t read ∙ (at_ok _ c.tail.ensures c.in_ok-tail.was).0) c.worth_at.ensures
