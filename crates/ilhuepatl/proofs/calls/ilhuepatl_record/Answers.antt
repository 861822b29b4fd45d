-- `ilhuepatl::calls::ilhuepatl_record` meets its contract: a refusal, where the record stands, or 0.
use mathlib.Core.Path.{sym, ap, ◌∙◌}
use Rattle.std.specs.Prelude.{Ok}
use Rattle.std.proofs.lemmas.Result.{MatchResult-at_ok, MatchResult-at_err}
use Rattle.book.proofs.Judgement.{found-means}
use Rattle.ilhuepatl.specs.Calls.{record_word}
use Rattle.ilhuepatl.specs.Outcomes.{word-refused}
use Rattle.ilhuepatl.proofs.calls.ilhuepatl_record.Goals as goal

pub returns-in-Ok-Some : goal.returns-in-Ok-Some
unfolding record_word
returns-in-Ok-Some c =
    let e = MatchResult-at_ok _ _ _ (sym c.find_record.ensures ∙ c.in-Ok-Some.is ∙ ap Ok c.in-Ok-Some.field-0-is) (found-means c.args.bytes.now c.args.job) in
    ap record_word (sym e)

pub returns-in-Ok-None : goal.returns-in-Ok-None
unfolding record_word
returns-in-Ok-None c =
    let e = MatchResult-at_ok _ _ _ (sym c.find_record.ensures ∙ c.in-Ok-None.is ∙ ap Ok c.in-Ok-None.field-0-is) (found-means c.args.bytes.now c.args.job) in
    ap record_word (sym e)

pub returns-in-Err : goal.returns-in-Err
returns-in-Err c =
    let e = MatchResult-at_err _ _ _ (sym c.find_record.ensures ∙ c.in-Err.is) (found-means c.args.bytes.now c.args.job) in
    word-refused (sym e.0) e.1 c.word_of.ensures
