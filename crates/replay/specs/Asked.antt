-- The record question: it refuses exactly the books that break a rule, as the reader does, and "doesn't look for KNOT".
use Rattle.std.specs.Prelude.{◌≡◌, refl, ◌↔◌, List, ℕ, ◌<◌, ◌≤◌}
use Rattle.std.proofs.Common.{inl, inr, arith, lt-ltb, le-ltb}
use Rattle.laws.specs.Search.{lt-or-le}
use Rattle.book.specs.Read.{Found}
use Rattle.book.specs.Format.{empty_span, book_of}
use Rattle.book.specs.Question.{found_at, found_in}
use Rattle.accepted.specs.Layout.{Bytes}
use Rattle.accepted.specs.Kept.{BookKept}
use Rattle.accepted.specs.Spans.{span_of}
use Rattle.replay.specs.Refuses.{kept, not-kept}

-- a refusal, a record's place, none
pub data Asked (s : List ℕ) (job : ℕ) : Found → Type 0 where
  refused : 0 < (book_of s).number → Asked s job (found_at (book_of s).number (book_of s).place empty_span)
  there : (book_of s).number ≡ 0 → job < (book_of s).jobs → Asked s job (found_at 0 0 (span_of (book_of s) job))
  missing : (book_of s).number ≡ 0 → (book_of s).jobs ≤ job → Asked s job (found_at 0 0 empty_span)

pub asked : (s : List ℕ) (job : ℕ) → Asked s job (found_in s job)
unfolding found_in
asked s job = elim (lt-or-le 0 (book_of s).number) [
  | inl l ↦ rw (lt-ltb 0 (book_of s).number l) (refused l)
  | inr l ↦
      let e : (book_of s).number ≡ 0 = omega arith in
      elim (lt-or-le job (book_of s).jobs) [
        | inl h ↦ rw (le-ltb 0 (book_of s).number l, lt-ltb job (book_of s).jobs h) (there e h)
        | inr h ↦ rw (le-ltb 0 (book_of s).number l, le-ltb job (book_of s).jobs h) (missing e h)
      ]
]

pub record QuestionRefuses (s : List ℕ) (f : Found) : Type 0 where
  pub exactly : (0 < f.number) ↔ (BookKept s → ⊥)
  pub broken : (BookKept s → ⊥) → (f.number ≡ (book_of s).number) × (f.place ≡ (book_of s).place)
  pub otherwise : BookKept s → (f.number ≡ 0) × (f.place ≡ 0)

module _ (s : List ℕ) (job : ℕ) (b : Bytes s) where
  by : {f : Found} → Asked s job f → QuestionRefuses s f
  by (refused l) = record {
    exactly = (λ x. not-kept s b l, λ n. l);
    broken = λ n. (refl, refl);
    otherwise = λ k. absurd (not-kept s b l k);
  }
  by (there e h) = record {
    exactly = (λ x. absurd (omega arith), λ n. absurd (n (kept s b e)));
    broken = λ n. absurd (n (kept s b e));
    otherwise = λ k. (refl, refl);
  }
  by (missing e h) = record {
    exactly = (λ x. absurd (omega arith), λ n. absurd (n (kept s b e)));
    broken = λ n. absurd (n (kept s b e));
    otherwise = λ k. (refl, refl);
  }

  pub question-refuses : QuestionRefuses s (found_in s job)
  question-refuses = by (asked s job)
