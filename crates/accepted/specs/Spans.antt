-- The spans of an accepted book's records lie end to end, from the header to the book's end.
use Rattle.std.specs.Prelude.{ℕ, suc, ◌<◌, ◌≤◌, ◌≡◌, List, length, get_or}
use native.Mathlib.Omega.{arith}
use Rattle.std.proofs.Math.Path.{sym, ap}
use Rattle.std.proofs.Common.{◌∙◌}
use Rattle.book.specs.declared.Span.{Span}
use Rattle.book.specs.Read.{Book}
use Rattle.book.specs.Format.{empty_span}
use Rattle.laws.specs.Listed.{listed_at}
use Rattle.accepted.specs.Layout.{jobs_at, job_place}
use Rattle.accepted.specs.Kept.{BookKept}
use Rattle.accepted.specs.Exactly.{BookGot, span_at}

abbrev pub span_of : Book → ℕ → Span
span_of b i = get_or b.spans i empty_span

pub record Laid (s : List ℕ) (b : Book) : Type 0 where
  pub first : 0 < b.jobs → (span_of b 0).start ≡ 9
  pub next : (i : ℕ) → suc i < b.jobs → (span_of b (suc i)).start ≡ (span_of b i).end
  pub some : (i : ℕ) → i < b.jobs → (span_of b i).start < (span_of b i).end
  pub inside : (i : ℕ) → i < b.jobs → (span_of b i).end ≤ length s
  pub last : (i : ℕ) → suc i ≡ b.jobs → (span_of b i).end ≡ length s
  pub none : b.jobs ≡ 0 → length s ≡ 9

module _ (s : List ℕ) (b : Book) (k : BookKept s) (g : BookGot s b) where
  pub span-is : (i : ℕ) → i < b.jobs → span_of b i ≡ span_at s i
  span-is i h = rw g.spans (listed_at 32 empty_span (span_at s) (jobs_at s) i k.header.jobs (rw g.jobs at h))

  pub laid : Laid s b
  unfolding job_place
  laid = record {
    first = λ h. rw (span-is 0 h);
    next = λ i h. let l : i < b.jobs = omega arith in rw (span-is (suc i) h, span-is i l);
    some = λ i h. rw (span-is i h) (omega arith);
    inside = λ i h. rw (span-is i h) (k.each i (rw g.jobs at h)).fits;
    last = λ i e.
        let l : i < b.jobs = omega arith in
        rw (span-is i l) (ap (job_place s) (e ∙ g.jobs) ∙ k.tail);
    none = λ e. sym k.tail ∙ ap (job_place s) (sym g.jobs ∙ e);
  }
