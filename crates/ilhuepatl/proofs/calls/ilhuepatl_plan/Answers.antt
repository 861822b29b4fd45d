-- `ilhuepatl::calls::ilhuepatl_plan` meets its contract.
use mathlib.Core.Path.{sym, ◌∙◌}
use Rattle.std.proofs.lemmas.Result.{MatchResult-at_ok, MatchResult-at_err}
use Rattle.ilhuepatl.proofs.Verdicts.{word-means}
use Rattle.ilhuepatl.proofs.calls.ilhuepatl_plan.Goals as goal

pub returns-in-Ok : goal.returns-in-Ok
returns-in-Ok c =
    let q = c.plan_bytes.ensures in
    (MatchResult-at_ok _ _ _ (sym q.0 ∙ c.in-Ok.is) (word-means c.args.book.now c.args.out.now), q.1)

pub returns-in-Err : goal.returns-in-Err
returns-in-Err c =
    let q = c.plan_bytes.ensures in
    (c.word_of.ensures ∙ MatchResult-at_err _ _ _ (sym q.0 ∙ c.in-Err.is) (word-means c.args.book.now c.args.out.now), q.1)
