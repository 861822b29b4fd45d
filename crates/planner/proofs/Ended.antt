-- The code's ends of a plan and of its first part, each the definition's: a refusal of the reader, KNOT, an answer.
use Prim.Native.Nat.{ℕ, zero, suc, ◌<◌, ◌≤◌}
use native.Mathlib.Omega.{arith}
use mathlib.Core.Path.{◌≡◌, refl, ap, sym, ◌∙◌}
use mathlib.Core.List.{List, [], ◌∷◌}
use Rattle.std.proofs.Common.{length, ltb, take, slice_get}
use lib.ListN.{get_or}
use Rattle.std.specs.Prelude.{Option, Some, None, Result, Ok, Err}
use Rattle.std.specs.Borrow.{Bor}
use Rattle.std.specs.Option.{option_copied}
use Rattle.std.specs.Slice.{IsItemAt}
use Rattle.std.proofs.Common.{lt-ltb, le-ltb}
use Rattle.std.proofs.lemmas.Option.{slice_get_past, slice_get_read}
use Rattle.std.proofs.lemmas.Result.{MatchResult-at_ok, MatchResult-at_err}
use Rattle.cursor.specs.declared.Refusal.{Refusal}
use Rattle.cursor.specs.Refusal.{KNOT}
use Rattle.book.specs.declared.Judged.{Judged}
use Rattle.book.specs.Format.{book_of}
use Rattle.book.specs.Judged.{judged_of, judgement}
use Rattle.book.proofs.Judgement.{RefusedBook, judgement-means}
use Rattle.gus.specs.declared.Part.{Part}
use Rattle.gus.specs.Choice.{by_density}
use Rattle.planner.specs.declared.BookPlan.{BookPlan}
use Rattle.planner.specs.declared.Victims.{Victims}
use Rattle.planner.specs.declared.PlanParts.{PlanParts}
use Rattle.planner.specs.declared.GroupParts.{GroupParts}
use Rattle.gus.specs.View.{View}
use Rattle.planner.specs.LaidOut.{empty_part, laid_out}
use Rattle.planner.specs.Round.{round_of, round-short}
use Rattle.planner.specs.Planned.{refused_plan, answered_to, planned_to, planned_of}
use Rattle.planner.specs.First.{refused_first, first_in, first_by}
use Rattle.planner.specs.Told.{plan_told, first_told, plan-refused, first-refused}
use Rattle.planner.specs.Ends.{knot_in}
use Rattle.planner.specs.Standing.{Accepted}
use Rattle.planner.specs.Preparing.{PreparedFor}
use Rattle.planner.specs.Answering.{plan_in, first_from, judged-accepted, refused-plan, refused-first, first-is}

-- what stands at a place, copied
pub copied-at : {X : Type 0} (xs : List X) (i : ℕ) (o : Option (Bor X)) → IsItemAt xs i o → option_copied o ≡ slice_get xs i
copied-at xs i None at = sym (slice_get_past xs i at.3)
copied-at xs i (Some x) at = sym (slice_get_read xs (length xs) i x.now refl at.3.0 at.1)

-- the first of a row's parts in use
copied-first : (ps : List Part) (n : ℕ) → 0 < length ps → ◌≡◌ {A = Result (Option Part) Refusal} (Ok (slice_get (take n ps) 0)) (first_told (record { number = 0; place = 0; some = ltb 0 n; part = get_or ps 0 empty_part }))
unfolding first_told
copied-first [] n h = absurd (omega arith)
copied-first (p ∷ ps) zero h = refl
copied-first (p ∷ ps) (suc n) h = let some : 0 < suc n = omega arith in rw (lt-ltb 0 (suc n) some) refl

-- no more of them than a group has places
pub first-few : (view : View) (t : ℕ) {g : GroupParts} → g ≡ laid_out (round_of by_density view t) → g.count ≤ 32
unfolding laid_out
first-few view t e = omega (arith, ap (λ (x : GroupParts). x.count) e, round-short by_density view t)

module _ (s : List ℕ) where
  -- the judge's answer
  pub accepted : {o : Result Judged Refusal} {j : Judged} → o ≡ judgement (judged_of s) → o ≡ Ok j → Accepted s j
  accepted is was = judged-accepted s (sym (MatchResult-at_ok _ _ _ (sym is ∙ was) (judgement-means s)))

  refused : {o : Result Judged Refusal} {d : Refusal} → o ≡ judgement (judged_of s) → o ≡ Err d → RefusedBook s d
  refused is was = MatchResult-at_err _ _ _ (sym is ∙ was) (judgement-means s)

  module _ {o : Result Judged Refusal} {d : Refusal} (is : o ≡ judgement (judged_of s)) (was : o ≡ Err d) where
    pub reader-plan : Err d ≡ plan_told (planned_of s)
    unfolding judged_of
    reader-plan =
        let r = refused is was in
        plan-refused d.number d.place r.2
        ∙ ap plan_told (refused-plan s refl (rw r.0 r.2) (λ k. refused_plan (sym r.0 k) (sym r.1 k)))

    pub reader-first : Err d ≡ first_told (first_in (planned_of s))
    unfolding judged_of
    reader-first =
        let r = refused is was in
        first-refused d.number d.place r.2
        ∙ ap first_told (first-is s (refused-first s refl (rw r.0 r.2) (λ k. refused_first (sym r.0 k) (sym r.1 k))))

  -- KNOT
  module _ (free : (book_of s).number ≡ 0) where
    knotted-plan : knot_in s < 32 → refused_plan KNOT (knot_in s) ≡ planned_of s
    unfolding planned_to answered_to
    knotted-plan h = rw (le-ltb 0 (book_of s).number (omega arith), planned_to, lt-ltb (knot_in s) 32 h, answered_to) refl

    knotted-first : knot_in s < 32 → refused_first KNOT (knot_in s) ≡ first_by by_density s
    unfolding first_by
    knotted-first h = rw (le-ltb 0 (book_of s).number (omega arith), lt-ltb (knot_in s) 32 h, first_by) refl

    module _ (sheet : List ℕ) {o : Result Victims Refusal} {d : Refusal} (prepared : PreparedFor s sheet o) (was : o ≡ Err d) where
      knot : (d ≡ record { number = KNOT; place = knot_in s }) × (knot_in s < 32)
      knot = MatchResult-at_err _ _ _ was prepared

      pub knot-plan : Err d ≡ plan_told (planned_of s)
      knot-plan = ap (λ (x : Refusal). Err x) knot.0 ∙ plan-refused KNOT (knot_in s) (omega arith) ∙ ap plan_told (knotted-plan knot.1)

      pub knot-first : Err d ≡ first_told (first_in (planned_of s))
      knot-first = ap (λ (x : Refusal). Err x) knot.0 ∙ first-refused KNOT (knot_in s) (omega arith) ∙ ap first_told (first-is s (knotted-first knot.1))

  -- an answer
  module _ (v : Victims) (p : PlanParts) (planned : plan_in v p ≡ planned_of s) where
    pub answer-plan : ◌≡◌ {A = Result BookPlan Refusal} (Ok (record { victims = v.list; victimcount = v.count; parts = p.parts; count = p.count; rounds = p.rounds; total = p.total; end = p.moment })) (plan_told (planned_of s))
    unfolding plan_told
    answer-plan = ap plan_told planned

  module _ (g : GroupParts) (first : first_from g ≡ first_by by_density s) where
    told : first_told (first_from g) ≡ first_told (first_in (planned_of s))
    told = ap first_told (first-is s first)

    pub first-told : 0 < length g.parts → ◌≡◌ {A = Result (Option Part) Refusal} (Ok (slice_get (take g.count g.parts) 0)) (first_told (first_in (planned_of s)))
    first-told h = copied-first g.parts g.count h ∙ told
