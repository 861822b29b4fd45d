-- What the bytes of one curve are worth at a moment. They are judged by the reader's own rules for a curve, and bytes after it are TAIL.
use Rattle.std.specs.Prelude.{ℕ, ℤ, cond, List, ltb, Option, None, Result, Ok}
use Rattle.cursor.specs.Reading.{Reading}
use Rattle.cursor.specs.Field.{got_at}
use Rattle.curve.specs.Question.{worth_from}
use Rattle.book.specs.Read.{CurveWorth}
use Rattle.cursor.specs.declared.Refusal.{Refusal}
use Rattle.cursor.specs.Answer.{refuse}
use Rattle.book.specs.Format.{curve_read, tail_read}

-- the reading of a curve that stands alone
abbrev pub alone_read : List ℕ → Reading
alone_read s = tail_read s (curve_read s (got_at 0 0 0)).reading

unfoldable pub curve_worth : List ℕ → ℕ → CurveWorth
curve_worth s t =
    let last = alone_read s in
    cond (ltb 0 last.number)
    (record { number = last.number; place = last.place; worth = None })
    (record { number = 0; place = 0; worth = worth_from s 0 t })

-- what the code answers of it
unfoldable pub worth_answer : CurveWorth → Result (Option ℤ) Refusal
worth_answer w = cond (ltb 0 w.number) (refuse w.number w.place) (Ok w.worth)
