-- `book::question::record` meets its contract: a record stands in the book.
use Prim.Native.Nat.{ℕ}
use mathlib.Core.Path.{◌≡◌, refl, ap, sym, ◌∙◌}
use mathlib.Core.List.{List}
use Rattle.std.specs.Prelude.{Option, Result, Ok}
use Rattle.cursor.specs.declared.Refusal.{Refusal}
use Rattle.book.specs.declared.Span.{Span}
use Rattle.book.specs.Question.{found_in, found_answer}
use Rattle.book.specs.Spans.{found-spanned}
use Rattle.book.proofs.Judgement.{found_said, found-is}
use Rattle.book.proofs.question.record.Goals as goal

-- what the definition finds, from the answer that the code has
found : (s : List ℕ) (job : ℕ) {o : Result (Option Span) Refusal} → o ≡ found_answer s job → found_in s job ≡ found_said s job o
found s job is = found-is s job ∙ ap (found_said s job) (sym is)

pub part-requires : goal.part-requires
part-requires c =
    let s = c.args.s.now in
    let y = found-spanned s c.args.job in
    let e = found s c.args.job (sym (c.in-Ok-Some.is ∙ ap Ok c.in-Ok-Some.field-0-is) ∙ c.find_record.ensures) in
    let z = rw e at y in (z.ordered, z.inside)

pub returns-in-Ok-Some : goal.returns-in-Ok-Some
returns-in-Ok-Some c =
    rw (found c.args.s.now c.args.job (sym (c.in-Ok-Some.is ∙ ap Ok c.in-Ok-Some.field-0-is) ∙ c.find_record.ensures)) (refl, refl, c.part.ensures)

pub returns-in-Ok-None : goal.returns-in-Ok-None
returns-in-Ok-None c =
    rw (found c.args.s.now c.args.job (sym (c.in-Ok-None.is ∙ ap Ok c.in-Ok-None.field-0-is) ∙ c.find_record.ensures)) (refl, refl, c.part-in-Ok-None.ensures)

pub returns-in-Err : goal.returns-in-Err
returns-in-Err c =
    rw (found c.args.s.now c.args.job (sym c.in-Err.is ∙ c.find_record.ensures)) (refl, refl, c.part-in-Err.ensures)
