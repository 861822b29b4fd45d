-- `book::request::requested_resource` meets its contract.
use Rattle.book.specs.Rules.{request_ok}
use Rattle.book.specs.Format.{requested_resource}
use Rattle.book.proofs.Stops.{by-err, ruled-stops, ruled-says}
use Rattle.book.proofs.request.requested_resource.Goals as goal

pub returns-in_err-a : goal.returns-in_err-a
unfolding requested_resource
returns-in_err-a c = rw (by-err _ c.from_residual.ensures.1) (ruled-stops c.args.s.now 1 0 255 (λ v. request_ok v c.args.resources) c.args.at c.field.ensures c.in_err-a.was)

pub returns : goal.returns
unfolding requested_resource
returns c = ruled-says c.args.s.now 1 0 255 (λ v. request_ok v c.args.resources) c.args.at c.field.ensures c.in_ok-a.was c.request_ok.ensures c.rule.ensures
