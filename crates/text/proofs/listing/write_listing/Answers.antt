-- `text::listing::write_listing` meets its contract: no room, a refused book's line, or a plan's lines.
use Prim.Native.Nat.{◌<◌}
use native.Mathlib.Omega.{arith}
use mathlib.Core.Path.{refl, sym, subst, ◌∙◌}
use Rattle.std.proofs.lemmas.Result.{MatchResult-at_ok, MatchResult-at_err}
use Rattle.planner.specs.Planned.{planned_of}
use Rattle.planner.specs.Counted.{Counted, counted}
use Rattle.planner.proofs.Told.{plan-means}
use Rattle.text.specs.Lines.{refused_line}
use Rattle.text.specs.Listed.{listed_told}
use Rattle.text.specs.Fits.{listing-fits}
use Rattle.text.specs.Texts.{refused-listing, planned-listing}
use Rattle.text.specs.Outcomes.{room, no_room, written}
use Rattle.text.proofs.Told.{by-outcome, by-length}
use Rattle.text.proofs.listing.write_listing.Goals as goal

pub returns-then-out-lt4096 : goal.returns-then-out-lt4096
unfolding listed_told
returns-then-out-lt4096 c = by-outcome (no_room _ _ _ (omega arith) refl) refl

pub put_refused-requires : goal.put_refused-requires
put_refused-requires c =
    let m = MatchResult-at_err _ _ _ (sym c.plan.ensures ∙ c.in-Err.is) (plan-means c.args.book.now) in
    let known : 0 < (planned_of c.args.book.now).number = rw m.0 m.2 in
    room (listing-fits _) (omega arith) ((λ k. refused_line (sym m.0 k) (sym m.1 k)) ∙ refused-listing c.args.book.now refl known)

pub returns-in-Err : goal.returns-in-Err
returns-in-Err c =
    let m = MatchResult-at_err _ _ _ (sym c.plan.ensures ∙ c.in-Err.is) (plan-means c.args.book.now) in
    let known : 0 < (planned_of c.args.book.now).number = rw m.0 m.2 in
    by-length (written _ _ _ (listing-fits _) (omega arith) ((λ k. refused_line (sym m.0 k) (sym m.1 k)) ∙ refused-listing c.args.book.now refl known) c.put_refused.ensures refl)

pub put_plan-requires : goal.put_plan-requires
put_plan-requires c =
    let m = MatchResult-at_ok _ _ _ (sym c.plan.ensures ∙ c.in-Ok.is) (plan-means c.args.book.now) in
    let k = subst Counted m (counted c.args.book.now) in
    let first = c.moment_of.ensures in
    (k.victims, k.parts, omega (arith, first.soon), room (listing-fits _) (omega arith) (planned-listing c.args.book.now (sym m) (omega arith) first))

pub returns-in-Ok : goal.returns-in-Ok
returns-in-Ok c =
    let m = MatchResult-at_ok _ _ _ (sym c.plan.ensures ∙ c.in-Ok.is) (plan-means c.args.book.now) in
    by-length (written _ _ _ (listing-fits _) (omega arith) (planned-listing c.args.book.now (sym m) (omega arith) c.moment_of.ensures) c.put_plan.ensures refl)
