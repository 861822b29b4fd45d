-- `ilhuepatl::calls::ilhuepatl_worth` meets its contract.
use native.Mathlib.Omega.{arith}
use mathlib.Core.Path.{refl, sym, ap, ◌∙◌}
use Rattle.std.proofs.lemmas.Result.{MatchResult-at_ok, MatchResult-at_err}
use Rattle.book.specs.CurveWorth.{curve_worth}
use Rattle.book.proofs.Judgement.{worth-means}
use Rattle.ilhuepatl.specs.Calls.{verdict_of, word, worth_bits}
use Rattle.ilhuepatl.specs.Outcomes.{worth-refused, worth-told, worth-small}
use Rattle.ilhuepatl.proofs.calls.ilhuepatl_worth.Goals as goal

pub worth_bits-requires : goal.worth_bits-requires
worth_bits-requires c =
    let a = c.args in
    let m = MatchResult-at_ok _ _ _ (sym c.worth_of_curve.ensures ∙ c.in-Ok.is) (worth-means (curve_worth a.curve.now a.t)) in
    rw m.1 at (worth-small a.curve.now a.t refl (omega (arith, m.0)))

pub returns-in-Ok : goal.returns-in-Ok
returns-in-Ok c =
    let a = c.args in
    let m = MatchResult-at_ok _ _ _ (sym c.worth_of_curve.ensures ∙ c.in-Ok.is) (worth-means (curve_worth a.curve.now a.t)) in
    worth-told refl (omega (arith, m.0)) (c.worth_bits.ensures ∙ ap worth_bits (sym m.1))

pub returns-in-Err : goal.returns-in-Err
returns-in-Err c =
    let a = c.args in
    let m = MatchResult-at_err _ _ _ (sym c.worth_of_curve.ensures ∙ c.in-Err.is) (worth-means (curve_worth a.curve.now a.t)) in
    worth-refused refl (rw m.0 m.2) (c.word_of.ensures ∙ (λ k. word (verdict_of (sym m.0 k) (sym m.1 k))))
