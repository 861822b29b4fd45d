-- `planner::plan::plan` meets its contract: the reader's refusal, KNOT, or the victims and the rounds.
use mir.Syntax.{w32}
use mir.Facts.{to_z-of_z}
use borrow.Author.Rules.{rules}
use Rattle.book.proofs.Stops.{by-err}
use Rattle.planner.proofs.Ended.{accepted, reader-plan, knot-plan, answer-plan}
use Rattle.planner.proofs.plan.plan.Goals as goal

pub returns-in_err-j : goal.returns-in_err-j
returns-in_err-j c = rw (by-err _ c.from_residual.ensures.1) (reader-plan c.args.bytes.now c.judge.ensures c.in_err-j.was)

pub prepare-requires : goal.prepare-requires
prepare-requires c = record { accepted = accepted c.args.bytes.now c.judge.ensures c.in_ok-j.was; blank = c.blank-sheet.ensures }

pub returns-in_err-v : goal.returns-in_err-v
returns-in_err-v c =
    let s = c.args.bytes.now in
    rw (by-err _ c.from_residual-in_err-v.ensures.1) (knot-plan s (accepted s c.judge.ensures c.in_ok-j.was).accepted c.prepare.new.sheet c.prepare.ensures c.in_err-v.was)

pub plan_rounds-p-requires : goal.plan_rounds-p-requires
plan_rounds-p-requires c =
    let p = c.in_ok-v.ensures in
    record { accepted = accepted c.args.bytes.now c.judge.ensures c.in_ok-j.was; prepared = p.0; free = p.1 }

pub returns : goal.returns
returns c = rw (to_z-of_z {w = w32} {z = c.plan_rounds-p.result.total} (search rules)) (answer-plan c.args.bytes.now c.in_ok-v.v c.plan_rounds-p.result c.plan_rounds-p.ensures)
