-- `book::question::find_record` meets its contract.
use Prim.Native.Nat.{ℕ, ◌+◌, ◌≤◌, ◌<◌}
use native.Mathlib.Omega.{arith}
use mathlib.Core.Path.{◌≡◌, refl, ap, sym, ◌∙◌}
use mathlib.Core.List.{List}
use lib.ListN.{get_or}
use borrow.Author.Tests.{lt-ltb, le-ltb}
use Rattle.std.specs.Prelude.{Option, Some, None, Result, Ok, Err}
use Rattle.std.proofs.lemmas.Result.{MatchResult-at_ok, MatchResult-at_err}
use Rattle.cursor.specs.declared.Refusal.{Refusal}
use Rattle.cursor.specs.declared.Header.{Header}
use Rattle.book.specs.declared.Judged.{Judged}
use Rattle.book.specs.declared.Span.{Span}
use Rattle.book.specs.Format.{book_of}
use Rattle.book.specs.Judged.{judged_of, judged_book, JudgedInto}
use Rattle.book.specs.Starts.{start_is, end_is, jobs-few}
use Rattle.book.specs.Question.{found_answer}
use Rattle.book.proofs.Stops.{by-err}
use Rattle.book.proofs.Judgement.{RefusedBook, judgement-means}
use Rattle.book.proofs.question.find_record.Goals as goal

-- what was judged into what was lent
module _ (s : List ℕ) {o : Result Header Refusal} (holders starts : List ℕ) (into : JudgedInto s o holders starts) where
  accepted : {h : Header} → o ≡ Ok h → judged_of s ≡ judged_book (record { now = h.now; jobs = h.jobs; holders = holders; starts = starts })
  accepted was = MatchResult-at_ok _ _ _ (sym (MatchResult-at_ok _ _ _ was into).0) (judgement-means s)

  not-accepted : {d : Refusal} → o ≡ Err d → RefusedBook s d
  not-accepted was = MatchResult-at_err _ _ _ (sym (MatchResult-at_err _ _ _ was into)) (judgement-means s)

-- the three answers of `found_answer`, each from what the code knows by then
module _ (s : List ℕ) (job : ℕ) where
  refused : {d : Refusal} → RefusedBook s d → Err d ≡ found_answer s job
  unfolding found_answer
  refused {d} met = rw (met.0, met.1, lt-ltb 0 d.number met.2) refl

  module _ {j : Judged} (known : judged_of s ≡ judged_book j) where
    jobs-are : (book_of s).jobs ≡ j.jobs
    unfolding judged_of
    jobs-are = ap (λ x. x.jobs) known

    number-is : (book_of s).number ≡ 0
    unfolding judged_of
    number-is = ap (λ x. x.number) known

    few : j.jobs ≤ 32
    few = omega (arith, jobs-few s, jobs-are)

    none : j.jobs ≤ job → ◌≡◌ {A = Result (Option Span) Refusal} (Ok None) (found_answer s job)
    unfolding found_answer
    none past = rw (number-is, jobs-are, le-ltb job j.jobs past) refl

    one : job < j.jobs → ◌≡◌ {A = Result (Option Span) Refusal} (Ok (Some (record { start = get_or j.starts job 0; end = get_or j.starts (job + 1) 0 }))) (found_answer s job)
    unfolding found_answer judged_of
    one under =
        let inside : job < (book_of s).jobs = rw jobs-are under in
        rw (number-is, jobs-are, lt-ltb job j.jobs under)
        (λ k. Ok (Some (record { start = (ap (λ x. get_or x.starts job 0) (sym known) ∙ sym (start_is s job inside)) k; end = (ap (λ x. get_or x.starts (job + 1) 0) (sym known) ∙ sym (end_is s job)) k })))

pub returns-in_err-head : goal.returns-in_err-head
returns-in_err-head c =
    let s = c.args.s.now in
    rw (by-err _ c.from_residual.ensures.1) (refused s c.args.job (not-accepted s _ _ c.judge_into.ensures c.in_err-head.was))

pub returns-then-head-job : goal.returns-then-head-job
returns-then-head-job c =
    let s = c.args.s.now in
    none s c.args.job (accepted s _ _ c.judge_into.ensures c.in_ok-head.was) c.if-head-job.true

pub overflow_add-result : goal.overflow_add-result
overflow_add-result c =
    let s = c.args.s.now in
    omega (arith, few s c.args.job (accepted s _ _ c.judge_into.ensures c.in_ok-head.was), c.if-head-job.false)

pub offset_bounds-starts-job : goal.offset_bounds-starts-job
offset_bounds-starts-job c =
    let s = c.args.s.now in
    omega (arith, few s c.args.job (accepted s _ _ c.judge_into.ensures c.in_ok-head.was))

pub returns : goal.returns
returns c =
    let s = c.args.s.now in
    one s c.args.job (accepted s _ _ c.judge_into.ensures c.in_ok-head.was) c.if-head-job.false
