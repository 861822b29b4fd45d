-- `book::request::rollback_read` meets its contract.
use Rattle.book.specs.Rules.{rollback_ok}
use Rattle.book.specs.Format.{rollback_read}
use Rattle.book.proofs.Stops.{by-err, ruled-stops, ruled-says}
use Rattle.book.proofs.request.rollback_read.Goals as goal

pub returns-in_err-a : goal.returns-in_err-a
unfolding rollback_read
returns-in_err-a c = rw (by-err _ c.from_residual.ensures.1) (ruled-stops c.args.s.now 2 1 65535 rollback_ok c.args.at c.field.ensures c.in_err-a.was)

pub returns : goal.returns
unfolding rollback_read
returns c = ruled-says c.args.s.now 2 1 65535 rollback_ok c.args.at c.field.ensures c.in_ok-a.was c.rollback_ok.ensures c.rule.ensures
