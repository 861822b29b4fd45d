-- `ilhuepatl::row::plan_row` meets its contract: no room, the plan's refusal, or its parts laid over the row.
use native.Mathlib.Omega.{arith}
use mathlib.Core.Path.{◌≡◌, refl, sym, ap, subst, ◌∙◌}
use mathlib.Core.List.{List}
use Prim.Native.Nat.{ℕ, ◌<◌, ◌≤◌}
use borrow.Author.Rules.{rules}
use mir.Syntax.{w32}
use mir.Facts.{to_z-of_z}
use Rattle.std.specs.Prelude.{Result, take, length}
use Rattle.std.proofs.Common.{lt-ltb, length-take-le}
use Rattle.std.proofs.lemmas.Result.{MatchResult-at_ok, MatchResult-at_err}
use Rattle.laws.specs.Stores.{over}
use Rattle.cursor.specs.declared.Refusal.{Refusal}
use Rattle.cursor.specs.Answer.{refuse}
use Rattle.book.proofs.Stops.{by-err}
use Rattle.gus.specs.declared.Part.{Part}
use Rattle.planner.specs.declared.BookPlan.{BookPlan}
use Rattle.planner.specs.Planned.{planned_of}
use Rattle.planner.specs.Told.{planned_book}
use Rattle.planner.specs.Counted.{Counted, counted}
use Rattle.planner.proofs.Told.{plan-means}
use Rattle.ilhuepatl.specs.declared.row.RowAnswer.{RowAnswer}
use Rattle.ilhuepatl.specs.Rows.{RowFields, RowOutcome, row_told, refused_answer, other_fields}
use Rattle.ilhuepatl.specs.RowPlans.{RowPlan, no_room, refused, answered, filled_by, filled_is}
use Rattle.ilhuepatl.proofs.Places.{laid}
use Rattle.ilhuepatl.proofs.row.plan_row.Goals as goal

by-outcome : {f : RowFields} {row : List Part} {o : RowOutcome} {r : Result RowAnswer Refusal} → record { answer = f; row = row } ≡ o → r ≡ row_told f → (r ≡ row_told o.answer) × (row ≡ o.row)
by-outcome e q = (q ∙ ap (λ (x : RowOutcome). row_told x.answer) e, ap (λ (x : RowOutcome). x.row) e)

told-refused : (number place : ℕ) → 0 < number → refuse number place ≡ row_told (refused_answer number place)
unfolding row_told
told-refused number place h = rw (lt-ltb 0 number h) refl

pub returns-then-row-lt96 : goal.returns-then-row-lt96
unfolding row_told over
returns-then-row-lt96 c =
    let book = c.args.book.now in
    let row = c.args.row.now in
    by-outcome (ap (λ (f : RowPlan). filled_by f row) (no_room book (omega arith) refl) ∙ filled_is book row) refl

pub returns-in_err-p : goal.returns-in_err-p
unfolding over
returns-in_err-p c =
    let book = c.args.book.now in
    let row = c.args.row.now in
    let m = MatchResult-at_err _ _ _ (sym c.plan.ensures ∙ c.in_err-p.was) (plan-means book) in
    let known : 0 < (planned_of book).number = rw m.0 m.2 in
    rw (by-err _ c.from_residual.ensures.1)
    (by-outcome (ap (λ (f : RowPlan). filled_by f row) (refused book (omega arith) refl known refl) ∙ filled_is book row) ((λ k. refuse (sym m.0 k) (sym m.1 k)) ∙ told-refused (planned_of book).number (planned_of book).place known))

-- no more parts than a row has
few : (book : List ℕ) {b : BookPlan} → planned_of book ≡ planned_book b → b.count ≤ 96
few book m = (subst Counted m (counted book)).parts

pub slice_bounds-copy_from_slice-end : goal.slice_bounds-copy_from_slice-end
slice_bounds-copy_from_slice-end c =
    omega (arith, few c.args.book.now (MatchResult-at_ok _ _ _ (sym c.plan.ensures ∙ c.in_ok-p.was) (plan-means c.args.book.now)))

pub slice_bounds-copy_from_slice-end-2 : goal.slice_bounds-copy_from_slice-end-2
slice_bounds-copy_from_slice-end-2 c =
    let h = few c.args.book.now (MatchResult-at_ok _ _ _ (sym c.plan.ensures ∙ c.in_ok-p.was) (plan-means c.args.book.now)) in
    sym (length-take-le c.in_ok-p.p.count c.args.row.now (omega arith))

pub shared_ref_as_front-copy_from_slice : goal.shared_ref_as_front-copy_from_slice
shared_ref_as_front-copy_from_slice c = few c.args.book.now (MatchResult-at_ok _ _ _ (sym c.plan.ensures ∙ c.in_ok-p.was) (plan-means c.args.book.now))

pub returns : goal.returns
unfolding row_told
returns c =
    let book = c.args.book.now in
    let row = c.args.row.now in
    let b = c.in_ok-p.p in
    let m = MatchResult-at_ok _ _ _ (sym c.plan.ensures ∙ c.in_ok-p.was) (plan-means book) in
    let long : length b.parts ≡ 96 = search rules in
    let size = length-take-le b.count b.parts (omega (arith, few book m)) in
    let placed = laid row b.count (take b.count b.parts) size c.copy_from_slice.ensures.after in
    rw (to_z-of_z {w = w32} {z = b.total} (search rules))
    (by-outcome (ap (λ (r : List Part). let o : RowOutcome = record { answer = other_fields (planned_book b); row = r } in o) placed ∙ ap (λ (f : RowPlan). filled_by f row) (answered book (omega arith) (sym m) (omega arith) refl) ∙ filled_is book row) refl)
