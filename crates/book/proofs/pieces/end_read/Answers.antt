-- `book::pieces::end_read` meets its contract.
use native.Mathlib.Omega.{arith}
use Rattle.cursor.specs.Refusal.{RANGE}
use Rattle.cursor.proofs.Says.{field-says, at_ok}
use Rattle.book.specs.Rules.{line_ok}
use Rattle.book.specs.Format.{end_read}
use Rattle.book.proofs.Stops.{by-err, ruled-stops, ruled-says}
use Rattle.book.proofs.pieces.end_read.Goals as goal

pub returns-in_err-a : goal.returns-in_err-a
unfolding end_read
returns-in_err-a c = rw (by-err _ c.from_residual.ensures.1) (ruled-stops c.args.s.now 4 c.args.last.start 2147483647 (line_ok c.args.last) c.args.at c.field.ensures c.in_err-a.was)

pub overflow_cast-a : goal.overflow_cast-a
overflow_cast-a c =
    let p = at_ok 2147483647 (field-says c.args.s.now 4 c.args.last.start 2147483647 RANGE (omega arith) c.args.at c.field.ensures) c.in_ok-a.was in
    omega (arith, p.1)

pub returns : goal.returns
unfolding end_read
returns c = ruled-says c.args.s.now 4 c.args.last.start 2147483647 (line_ok c.args.last) c.args.at c.field.ensures c.in_ok-a.was c.line_ok.ensures c.rule.ensures
