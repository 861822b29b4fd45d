-- `book::held::held_resource` meets its contract.
use native.Mathlib.Omega.{arith}
use mathlib.Core.Path.{refl}
use Rattle.std.specs.Prelude.{ltb, eqb}
use Rattle.cursor.specs.Refusal.{TWICE}
use Rattle.cursor.proofs.Says.{rule-says, rule-stays, at_ok, at_err}
use Rattle.book.specs.Format.{unheld_read, held_resource}
use Rattle.book.proofs.Stops.{by-err, within, ruled-stops, ruled-says}
use Rattle.book.proofs.held.held_resource.Goals as goal

pub returns-in_err-a : goal.returns-in_err-a
unfolding held_resource unheld_read
returns-in_err-a c = rw (by-err _ c.from_residual.ensures.1) (rule-stays (ruled-stops c.args.s.now 1 0 255 (λ v. ltb v c.args.resources) c.args.at c.field.ensures c.in_err-a.was) _ _ _)

pub returns-in_err-known : goal.returns-in_err-known
unfolding held_resource unheld_read
returns-in_err-known c =
    rw (by-err _ c.from_residual-in_err-known.ensures.1)
    (rule-stays (at_err 255 (ruled-says c.args.s.now 1 0 255 (λ v. ltb v c.args.resources) c.args.at c.field.ensures c.in_ok-a.was refl c.rule.ensures) c.in_err-known.was) _ _ _)

pub returns : goal.returns
unfolding held_resource unheld_read
returns c =
    let p = at_ok 255 (ruled-says c.args.s.now 1 0 255 (λ v. ltb v c.args.resources) c.args.at c.field.ensures c.in_ok-a.was refl c.rule.ensures) c.in_ok-known.was in
    let f = c.in_ok-known.known in
    rw (p.0, ← c.holder_at-free.ensures) (within _ _ p.1 (rule-says (eqb c.holder_at-free.result 255) TWICE f.place f (omega arith) refl c.rule-2.ensures))
