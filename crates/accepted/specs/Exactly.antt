-- A book is accepted exactly when it keeps its rules; "none is given otherwise".
use Rattle.std.specs.Prelude.{ℕ, suc, ◌<◌, ◌≤◌, ◌≡◌, refl, cond, List, length, ltb, eqb}
use Rattle.std.proofs.Common.{arith, ◌∙◌, inl, inr}
use Rattle.std.proofs.Math.Path.{sym}
use borrow.Author.Tests.{lt-ltb, eq-eqb, eqb-true}
use Rattle.laws.specs.Count.{upto, upto-each}
use Rattle.laws.specs.Search.{lt-or-le}
use Rattle.laws.specs.Listed.{listed, listed-none, listed_next}
use Rattle.cursor.specs.Reading.{Reading}
use Rattle.book.specs.declared.Span.{Span}
use Rattle.book.specs.Read.{Book, Records}
use Rattle.cursor.specs.Refusal.{TAIL}
use Rattle.cursor.specs.Field.{got_at}
use Rattle.cursor.specs.Header.{header_of}
use Rattle.book.specs.Format.{empty_record, empty_span, record_read, record_next, no_records, records_read, tail_read, accepted_book, refused_book, book_of}
use Rattle.accepted.specs.Fields.{Onward, rule-kept, rule-passed}
use Rattle.accepted.specs.Layout.{record_at, jobs_at, resources_at, now_at, job_place}
use Rattle.laws.specs.Holders.{Agree, agree-none, agree-job}
use Rattle.accepted.specs.Kept.{HeaderKept, held_of, holds_of}
use Rattle.accepted.specs.Headers.{header-got}
use Rattle.accepted.specs.JobRecords.{RecordGot}

-- ---- the records: those of the first i jobs are read
abbrev pub span_at : List ℕ → ℕ → Span
span_at s i = record { start = job_place s i; end = job_place s (suc i) }

pub record Recorded (s : List ℕ) (i : ℕ) (b : Records) : Type 0 where
  pub going : Onward b.reading (job_place s i)
  pub records : b.records ≡ listed 32 empty_record (λ j. record_at s (job_place s j)) i
  pub spans : b.spans ≡ listed 32 empty_span (span_at s) i
  pub agree : Agree (holds_of s) (held_of s) i 0 b.holders

module _ (s : List ℕ) (resources : ℕ) (few : resources ≤ 32) where
  -- one more
  recorded_more : (i : ℕ) (b : Records) → Recorded s i b → RecordGot s i (record_read s i resources b.holders b.reading) → Recorded s (suc i) (record_next s resources i b)
  unfolding record_next job_place
  recorded_more i b l k = record {
    going = k.going;
    records = rw (k.job, l.records) (sym (listed_next 32 empty_record (λ j. record_at s (job_place s j)) i));
    spans = rw (k.going.here, l.going.here, l.spans) (sym (listed_next 32 empty_span (span_at s) i));
    agree = agree-job (holds_of s) (held_of s) i _ k.agree;
  }

  module _ (jobs : ℕ) (top : jobs ≤ 32) (r : Reading) (o : Onward r 9) where
    abbrev pub read : ℕ → Records
    read i = upto (record_next s resources) i (no_records r)

    recorded-first : Recorded s 0 (no_records r)
    unfolding no_records job_place
    recorded-first = record {
      going = o;
      records = sym (listed-none 32 empty_record (λ j. record_at s (job_place s j)));
      spans = sym (listed-none 32 empty_span (span_at s));
      agree = agree-none (holds_of s) (held_of s);
    }

    pub recorded : ((i : ℕ) → i < jobs → Recorded s i (read i) → RecordGot s i (record_read s i resources (read i).holders (read i).reading)) → (i : ℕ) → i ≤ jobs → Recorded s i (read i)
    recorded k = upto-each (Recorded s) (record_next s resources) jobs (no_records r) recorded-first (λ i lt l. recorded_more i (read i) l (k i lt l))

-- ---- the book: what an accepted one has
pub record BookGot (s : List ℕ) (b : Book) : Type 0 where
  pub number : b.number ≡ 0
  pub now : b.now ≡ now_at s
  pub jobs : b.jobs ≡ jobs_at s
  pub resources : b.resources ≡ resources_at s
  pub records : b.records ≡ listed 32 empty_record (λ j. record_at s (job_place s j)) (jobs_at s)
  pub spans : b.spans ≡ listed 32 empty_span (span_at s) (jobs_at s)
  pub agree : Agree (holds_of s) (held_of s) (jobs_at s) 0 b.holders

module _ (s : List ℕ) (r : Reading) (p : ℕ) (o : Onward r p) where
  pub tail-got : p ≡ length s → tail_read s r ≡ r
  unfolding tail_read
  tail-got e = rule-kept (eqb r.next (length s)) TAIL r.next r o.unrefused (eq-eqb _ _ (o.here ∙ e))

  pub tail-back : (tail_read s r).number ≡ 0 → p ≡ length s
  unfolding tail_read
  tail-back h = sym o.here ∙ eqb-true _ _ (rule-passed (eqb r.next (length s)) TAIL r.next r (omega arith) h).holds

unrefused-book : (n place : ℕ) (b : Book) → (cond (ltb 0 n) (refused_book n place) b).number ≡ 0 → n ≡ 0
unfolding refused_book
unrefused-book n place b h = elim (lt-or-le 0 n) [
  | inl l ↦ rw (lt-ltb 0 n l) at h
  | inr l ↦ omega arith
]

module _ (s : List ℕ) where
  abbrev pub whole : Records
  whole = records_read s (jobs_at s) (resources_at s) (got_at 5 4 (now_at s))

  pub book-read : HeaderKept s → Recorded s (jobs_at s) whole → job_place s (jobs_at s) ≡ length s → BookGot s (book_of s)
  unfolding book_of accepted_book
  book-read k l e =
      rw (header-got s k, tail-got s whole.reading (job_place s (jobs_at s)) l.going e, l.going.unrefused)
      (record { number = refl; now = refl; jobs = refl; resources = refl; records = l.records; spans = l.spans; agree = l.agree })

  -- the tail is passed where the book is accepted
  pub last-passed : (book_of s).number ≡ 0 → (tail_read s (records_read s (header_of s).jobs (header_of s).resources (header_of s).reading).reading).number ≡ 0
  unfolding book_of
  last-passed h = unrefused-book _ _ _ h
