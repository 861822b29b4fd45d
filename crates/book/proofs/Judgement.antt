-- What the code's answers about a book mean of the book's definition.
use Prim.Native.Nat.{ℕ, ◌<◌}
use native.Mathlib.Omega.{arith}
use mathlib.Core.Path.{◌≡◌, refl}
use mathlib.Core.List.{List}
use borrow.Author.Tests.{ltb-true, ltb-false}
use Rattle.std.specs.Prelude.{ℤ, ltb, Option, Some, None, Result, Ok, Err, MatchResult}
use Rattle.cursor.specs.declared.Refusal.{Refusal}
use Rattle.cursor.specs.Outcome.{by-test}
use Rattle.cursor.proofs.Says.{both-by-test}
use Rattle.cursor.specs.Header.{header_of}
use Rattle.book.specs.declared.Judged.{Judged}
use Rattle.book.specs.declared.Span.{Span}
use Rattle.book.specs.Read.{Book, CurveWorth, Found}
use Rattle.book.specs.Format.{empty_span, records_read, tail_read, accepted_book, refused_book, book_of}
use Rattle.book.specs.Judged.{judged_of, judgement, judged_book}
use Rattle.book.specs.Question.{found_at, found_in, found_answer}
use Rattle.book.specs.CurveWorth.{worth_answer}

-- a refusal is the book's
abbrev pub RefusedBook : List ℕ → Refusal → Type 0
RefusedBook s d = ((book_of s).number ≡ d.number) × ((book_of s).place ≡ d.place) × (0 < d.number)

module _ (s : List ℕ) where
  -- an accepted book has no place of a refusal
  no-place : (book_of s).number ≡ 0 → (book_of s).place ≡ 0
  unfolding book_of refused_book accepted_book
  no-place =
      let h = header_of s in
      let last = tail_read s (records_read s h.jobs h.resources h.reading).reading in
      by-test (ltb 0 last.number) _ _ (λ (x : Book). x.number ≡ 0 → x.place ≡ 0) (λ e z. absurd (omega (arith, ltb-true 0 last.number e, z))) (λ e z. refl)

  pub judgement-means : MatchResult (judgement (judged_of s)) (λ j. judged_of s ≡ judged_book j) (RefusedBook s)
  unfolding judgement judged_of
  judgement-means =
      let b = judged_of s in
      by-test (ltb 0 b.number) _ _ (λ (o : Result Judged Refusal). MatchResult o (λ j. b ≡ judged_book j) (RefusedBook s))
      (λ e. (refl, refl, ltb-true 0 b.number e))
      (λ e. let z : b.number ≡ 0 = omega (arith, ltb-false 0 b.number e) in
      λ i. record { number = z i; place = no-place z i; now = b.now; jobs = b.jobs; holders = b.holders; starts = b.starts })

  module _ (job : ℕ) where
    -- an answer to the record question, as the definition has it
    abbrev pub found_said : Result (Option Span) Refusal → Found
    found_said (Ok (Some x)) = found_at 0 0 x
    found_said (Ok None) = found_at 0 0 empty_span
    found_said (Err d) = found_at d.number d.place empty_span

    pub found-is : found_in s job ≡ found_said (found_answer s job)
    unfolding found_in found_answer
    found-is =
        let b = book_of s in
        both-by-test (ltb 0 b.number) _ _ _ _ (λ x o. x ≡ found_said o) (λ e. refl) (λ e.
        both-by-test (ltb job b.jobs) _ _ _ _ (λ x o. x ≡ found_said o) (λ e. refl) (λ e. refl))

    -- what the answer means, with a number for each refusal
    pub found-means : MatchResult (found_answer s job) (λ x. found_in s job ≡ found_said (Ok x)) (λ d. (found_in s job ≡ found_said (Err d)) × (0 < d.number))
    unfolding found_in found_answer
    found-means =
        let b = book_of s in
        both-by-test (ltb 0 b.number) _ _ _ _ (λ x o. MatchResult o (λ y. x ≡ found_said (Ok y)) (λ d. (x ≡ found_said (Err d)) × (0 < d.number))) (λ e. (refl, ltb-true 0 b.number e)) (λ e.
        both-by-test (ltb job b.jobs) _ _ _ _ (λ x o. MatchResult o (λ y. x ≡ found_said (Ok y)) (λ d. (x ≡ found_said (Err d)) × (0 < d.number))) (λ e. refl) (λ e. refl))

-- a curve's worth
pub worth-means : (w : CurveWorth) → MatchResult (worth_answer w) (λ x. (w.number ≡ 0) × (w.worth ≡ x)) (λ d. (w.number ≡ d.number) × (w.place ≡ d.place) × (0 < d.number))
unfolding worth_answer
worth-means w =
    by-test (ltb 0 w.number) _ _ (λ (o : Result (Option ℤ) Refusal). MatchResult o (λ x. (w.number ≡ 0) × (w.worth ≡ x)) (λ d. (w.number ≡ d.number) × (w.place ≡ d.place) × (0 < d.number)))
    (λ e. (refl, refl, ltb-true 0 w.number e)) (λ e. (omega (arith, ltb-false 0 w.number e), refl))
