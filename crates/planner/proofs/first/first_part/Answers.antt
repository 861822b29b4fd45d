-- `planner::first::first_part` meets its contract: the reader's refusal, KNOT, or the first part of the first round's group.
use native.Mathlib.Omega.{arith}
use mathlib.Core.Path.{◌≡◌, refl, ◌∙◌}
use borrow.Author.Rules.{rules}
use Rattle.std.specs.Prelude.{length, take}
use Rattle.std.specs.List.{slice_get}
use Rattle.book.proofs.Stops.{by-err}
use Rattle.planner.specs.Answering.{round-scanning, first_found}
use Rattle.planner.proofs.Ended.{accepted, reader-first, knot-first, first-few, copied-at, first-told}
use Rattle.planner.proofs.first.first_part.Goals as goal

pub returns-in_err-j : goal.returns-in_err-j
returns-in_err-j c = rw (by-err _ c.from_residual.ensures.1) (reader-first c.args.bytes.now c.judge.ensures c.in_err-j.was)

pub prepare-requires : goal.prepare-requires
prepare-requires c = record { accepted = accepted c.args.bytes.now c.judge.ensures c.in_ok-j.was; blank = c.blank-sheet.ensures }

pub returns-in_err-prepare : goal.returns-in_err-prepare
returns-in_err-prepare c =
    let s = c.args.bytes.now in
    rw (by-err _ c.from_residual-in_err-prepare.ensures.1) (knot-first s (accepted s c.judge.ensures c.in_ok-j.was).accepted c.prepare.new.sheet c.prepare.ensures c.in_err-prepare.was)

pub round-g-requires : goal.round-g-requires
round-g-requires c =
    let s = c.args.bytes.now in
    let p = c.in_ok-prepare.ensures in
    round-scanning s (accepted s c.judge.ensures c.in_ok-j.was) p.0 p.1

pub shared_ref_as_front-first : goal.shared_ref_as_front-first
shared_ref_as_front-first c = first-few _ _ c.round-g.ensures

pub returns : goal.returns
returns c =
    let s = c.args.bytes.now in
    let p = c.in_ok-prepare.ensures in
    let long : length c.round-g.result.parts ≡ 32 = search rules in
    let copied : c.copied.result ≡ slice_get (take c.round-g.result.count c.round-g.result.parts) 0 = c.copied.ensures ∙ copied-at _ _ c.first.result c.first.ensures.item in
    rw copied (first-told s c.round-g.result (first_found s (accepted s c.judge.ensures c.in_ok-j.was) p.0 p.1 c.round-g.ensures refl) (omega arith))
