-- `book::pieces::signed_read` meets its contract.
use Rattle.book.specs.Rules.{around_ok}
use Rattle.book.specs.Format.{signed_read}
use Rattle.book.proofs.Stops.{by-err, ruled-stops, ruled-says}
use Rattle.book.proofs.pieces.signed_read.Goals as goal

pub returns-in_err-a : goal.returns-in_err-a
unfolding signed_read
returns-in_err-a c = rw (by-err _ c.from_residual.ensures.1) (ruled-stops c.args.s.now c.args.n 0 c.args.high (λ v. around_ok v c.args.most c.args.high) c.args.at c.field.ensures c.in_err-a.was)

pub returns : goal.returns
unfolding signed_read
returns c = ruled-says c.args.s.now c.args.n 0 c.args.high (λ v. around_ok v c.args.most c.args.high) c.args.at c.field.ensures c.in_ok-a.was c.around_ok.ensures c.rule.ensures
