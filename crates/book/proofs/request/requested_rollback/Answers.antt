-- `book::request::requested_rollback` meets its contract.
use Rattle.book.specs.Rules.{rollback_ok}
use Rattle.book.specs.Format.{requested_rollback}
use Rattle.book.proofs.Stops.{by-err, within, ruled-stops, ruled-says}
use Rattle.book.proofs.request.requested_rollback.Goals as goal

pub returns-in_err-a : goal.returns-in_err-a
unfolding requested_rollback
returns-in_err-a c =
    rw (by-err _ c.from_residual.ensures.1, ← c.if_requested-low.ensures.0, ← c.if_requested-high.ensures.0)
    (ruled-stops c.args.s.now 2 _ _ rollback_ok c.args.at c.field.ensures c.in_err-a.was)

pub returns : goal.returns
unfolding requested_rollback
returns c =
    rw (← c.if_requested-low.ensures.0, ← c.if_requested-high.ensures.0)
    (within _ _ c.if_requested-high.ensures.1 (ruled-says c.args.s.now 2 _ _ rollback_ok c.args.at c.field.ensures c.in_ok-a.was c.rollback_ok.ensures c.rule.ensures))
