-- `book::pieces::start_read` meets its contract.
use Prim.Native.Nat.{◌-◌}
use native.Mathlib.Omega.{arith}
use mathlib.Core.Path.{◌∙◌, ap}
use Rattle.cursor.specs.Refusal.{RANGE}
use Rattle.cursor.proofs.Says.{field-says, at_ok}
use Rattle.book.specs.Rules.{line_ok}
use Rattle.book.specs.Format.{start_read}
use Rattle.book.proofs.Stops.{by-err, ruled-stops, ruled-says}
use Rattle.book.proofs.pieces.start_read.Goals as goal

pub returns-in_err-a : goal.returns-in_err-a
unfolding start_read
returns-in_err-a c = rw (by-err _ c.from_residual.ensures.1) (ruled-stops c.args.s.now 4 c.args.low 2147483647 (λ v. line_ok c.args.last (v - 1)) c.args.at c.field.ensures c.in_err-a.was)

pub overflow_cast-end : goal.overflow_cast-end
overflow_cast-end c =
    let p = at_ok 2147483647 (field-says c.args.s.now 4 c.args.low 2147483647 RANGE (omega arith) c.args.at c.field.ensures) c.in_ok-a.was in
    omega (arith, p.1, c.saturating_sub-end.ensures)

pub returns : goal.returns
unfolding start_read
returns c =
    ruled-says c.args.s.now 4 c.args.low 2147483647 (λ v. line_ok c.args.last (v - 1)) c.args.at c.field.ensures c.in_ok-a.was (c.line_ok.ensures ∙ ap (line_ok c.args.last) c.saturating_sub-end.ensures) c.rule.ensures
