-- `ilhuepatl::calls::ilhuepatl_first` meets its contract: a refusal, the part in one number, or nothing.
use native.Mathlib.Omega.{arith}
use mathlib.Core.Path.{refl, sym, ap, ◌∙◌}
use mathlib.Core.Bool.{true, false}
use Rattle.std.specs.Prelude.{Ok}
use Rattle.std.proofs.lemmas.Result.{MatchResult-at_ok, MatchResult-at_err}
use Rattle.planner.proofs.Told.{first-means}
use Rattle.ilhuepatl.specs.Calls.{verdict_of, word}
use Rattle.ilhuepatl.specs.Outcomes.{first-refused, first-answered}
use Rattle.ilhuepatl.proofs.calls.ilhuepatl_first.Goals as goal

pub returns-in-Ok-Some : goal.returns-in-Ok-Some
returns-in-Ok-Some c =
    let e = MatchResult-at_ok _ _ _ (sym c.first_part.ensures ∙ c.in-Ok-Some.is ∙ ap Ok c.in-Ok-Some.field-0-is) (first-means c.args.book.now) in
    first-answered (sym e) true (omega arith) refl c.part_word.ensures

pub returns-in-Ok-None : goal.returns-in-Ok-None
returns-in-Ok-None c =
    let e = MatchResult-at_ok _ _ _ (sym c.first_part.ensures ∙ c.in-Ok-None.is ∙ ap Ok c.in-Ok-None.field-0-is) (first-means c.args.book.now) in
    first-answered (sym e) false (omega arith) refl refl

pub returns-in-Err : goal.returns-in-Err
returns-in-Err c =
    let m = MatchResult-at_err _ _ _ (sym c.first_part.ensures ∙ c.in-Err.is) (first-means c.args.book.now) in
    first-refused refl (rw m.0 m.2) (c.word_of.ensures ∙ (λ k. word (verdict_of (sym m.0 k) (sym m.1 k))))
