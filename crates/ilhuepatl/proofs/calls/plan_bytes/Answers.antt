-- `ilhuepatl::calls::plan_bytes` meets its contract: no room, the plan's refusal, or the answer.
use Prim.Native.Nat.{◌<◌}
use native.Mathlib.Omega.{arith}
use mathlib.Core.Path.{refl, sym, subst, ◌∙◌}
use Rattle.std.proofs.lemmas.Result.{MatchResult-at_ok, MatchResult-at_err}
use Rattle.cursor.specs.Answer.{refuse}
use Rattle.book.proofs.Stops.{by-err}
use Rattle.planner.specs.Planned.{planned_of}
use Rattle.planner.specs.Counted.{Counted, counted}
use Rattle.planner.proofs.Told.{plan-means}
use Rattle.ilhuepatl.specs.Verdict.{verdict_told}
use Rattle.ilhuepatl.specs.Outcomes.{no_room, refused, answered}
use Rattle.ilhuepatl.proofs.Verdicts.{by-outcome, told-refused}
use Rattle.ilhuepatl.proofs.calls.plan_bytes.Goals as goal

pub returns-then-out-lt430 : goal.returns-then-out-lt430
unfolding verdict_told
returns-then-out-lt430 c = by-outcome (no_room _ _ (omega arith) refl) refl

pub returns-in_err-p : goal.returns-in_err-p
returns-in_err-p c =
    let book = c.args.book.now in
    let m = MatchResult-at_err _ _ _ (sym c.plan.ensures ∙ c.in_err-p.was) (plan-means book) in
    let known : 0 < (planned_of book).number = rw m.0 m.2 in
    rw (by-err _ c.from_residual.ensures.1)
    (by-outcome (refused book c.args.out.now (omega arith) refl known refl) ((λ k. refuse (sym m.0 k) (sym m.1 k)) ∙ told-refused (planned_of book).number (planned_of book).place known))

pub put_answer-requires : goal.put_answer-requires
put_answer-requires c =
    let book = c.args.book.now in
    let k = subst Counted (MatchResult-at_ok _ _ _ (sym c.plan.ensures ∙ c.in_ok-p.was) (plan-means book)) (counted book) in
    (k.victims, k.parts, omega (arith, k.rounds), omega arith)

pub returns : goal.returns
unfolding verdict_told
returns c =
    let book = c.args.book.now in
    let m = MatchResult-at_ok _ _ _ (sym c.plan.ensures ∙ c.in_ok-p.was) (plan-means book) in
    by-outcome (answered book c.args.out.now (omega arith) (sym m) (omega arith) refl c.put_answer.ensures) refl
