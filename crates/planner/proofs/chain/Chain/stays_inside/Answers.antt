-- `planner::chain::Chain::stays_inside` meets its contract.
use mathlib.Core.Bool.{true, false}
use mathlib.Core.Path.{◌≡◌, refl, ◌∙◌}
use lib.IntN.{ℤ}
use Rattle.std.proofs.lemmas.Bool.{false≢true, true≢false}
use Rattle.std.specs.Prelude.{Option, None, Some}
use Rattle.std.specs.Option.{is_some}
use Rattle.curve.specs.Worth.{amount}
use Rattle.planner.specs.Staying.{staying-next, staying-lost, staying-ended}
use Rattle.planner.proofs.chain.Chain.stays_inside.Goals as goal

none_there : {w : Option ℤ} → is_some w ≡ false → None ≡ w
none_there {w = None} h = refl
none_there {w = Some z} h = absurd (true≢false h)

some_there : {w : Option ℤ} → is_some w ≡ true → Some (amount w) ≡ w
some_there {w = None} h = absurd (false≢true h)
some_there {w = Some z} h = refl

pub returns-then-is_none : goal.returns-then-is_none
returns-then-is_none c =
    let o = c.own_stint-stint.ensures in
    staying-lost _ _ _ c.loop-i.invariant c.requires.seeing c.requires.members_below _ _ c.loop-i-test.true o.job (rw o.mode at o.span)
    (none_there c.if-is_none.ensures ∙ (rw o.mode at c.earn.ensures))

pub loop-i-preserved : goal.loop-i-preserved
loop-i-preserved c =
    let o = c.own_stint-stint.ensures in
    staying-next _ _ _ c.loop-i.invariant c.requires.seeing c.requires.members_below _ _ c.loop-i-test.true o.job (rw o.mode at o.span)
    _ (some_there c.if-is_none.ensures ∙ (rw o.mode at c.earn.ensures))

pub returns : goal.returns
returns c = staying-ended _ _ _ c.loop-i.invariant c.loop-i-test.false
