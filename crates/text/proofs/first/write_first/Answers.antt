-- `text::first::write_first` meets its contract: no room, a refused book's line, or the first part's.
use Prim.Native.Nat.{◌<◌, ◌≤◌}
use native.Mathlib.Omega.{arith}
use mathlib.Core.Path.{refl, sym, ◌∙◌}
use Rattle.std.specs.Prelude.{Option, Some, None}
use Rattle.std.proofs.lemmas.Result.{MatchResult-at_ok, MatchResult-at_err}
use Rattle.gus.specs.declared.Part.{Part}
use Rattle.planner.specs.Planned.{planned_of}
use Rattle.planner.specs.First.{first_in}
use Rattle.planner.specs.Told.{first_book}
use Rattle.planner.proofs.Told.{first-means}
use Rattle.text.specs.Lines.{refused_line}
use Rattle.text.specs.Listed.{listed_told}
use Rattle.text.specs.Fits.{first_fits}
use Rattle.text.specs.Texts.{refused-first, planned-first}
use Rattle.text.specs.Outcomes.{room, no_room, written}
use Rattle.text.proofs.Told.{by-outcome, by-length}
use Rattle.text.proofs.first.write_first.Goals as goal

-- an answer without a refusal
free : (o : Option Part) → (first_book o).number ≤ 0
free None = omega arith
free (Some p) = omega arith

pub returns-then-out-lt32 : goal.returns-then-out-lt32
unfolding listed_told
returns-then-out-lt32 c = by-outcome (no_room _ _ _ (omega arith) refl) refl

pub put_refused-requires : goal.put_refused-requires
put_refused-requires c =
    let m = MatchResult-at_err _ _ _ (sym c.first_part.ensures ∙ c.in-Err.is) (first-means c.args.book.now) in
    let known : 0 < (first_in (planned_of c.args.book.now)).number = rw m.0 m.2 in
    room (first_fits _) (omega arith) ((λ k. refused_line (sym m.0 k) (sym m.1 k)) ∙ refused-first c.args.book.now refl known)

pub returns-in-Err : goal.returns-in-Err
returns-in-Err c =
    let m = MatchResult-at_err _ _ _ (sym c.first_part.ensures ∙ c.in-Err.is) (first-means c.args.book.now) in
    let known : 0 < (first_in (planned_of c.args.book.now)).number = rw m.0 m.2 in
    by-length (written _ _ _ (first_fits _) (omega arith) ((λ k. refused_line (sym m.0 k) (sym m.1 k)) ∙ refused-first c.args.book.now refl known) c.put_refused.ensures refl)

pub put_first-requires : goal.put_first-requires
put_first-requires c =
    let m = MatchResult-at_ok _ _ _ (sym c.first_part.ensures ∙ c.in-Ok.is) (first-means c.args.book.now) in
    room (first_fits _) (omega arith) (planned-first c.args.book.now (sym m) (free c.in-Ok.first) c.moment_of.ensures)

pub returns-in-Ok : goal.returns-in-Ok
returns-in-Ok c =
    let m = MatchResult-at_ok _ _ _ (sym c.first_part.ensures ∙ c.in-Ok.is) (first-means c.args.book.now) in
    by-length (written _ _ _ (first_fits _) (omega arith) (planned-first c.args.book.now (sym m) (free c.in-Ok.first) c.moment_of.ensures) c.put_first.ensures refl)
