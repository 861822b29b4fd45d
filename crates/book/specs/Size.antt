-- Every book has 32 places for records and spans, a refused one too, which has no jobs.
use Rattle.std.specs.Prelude.{ℕ, zero, suc, ◌<◌, ◌≡◌, refl, List, ltb}
use Rattle.std.proofs.Common.{arith, ◌∙◌, length-set}
use Rattle.std.proofs.Math.ListN.{length, length-replicate}
use Rattle.laws.specs.Count.{upto}
use Rattle.cursor.specs.Reading.{Reading, HeaderRead}
use Rattle.book.specs.Read.{Book, Records}
use Rattle.cursor.specs.Outcome.{by-test}
use Rattle.cursor.specs.Header.{header_of}
use Rattle.book.specs.Format.{empty_record, empty_span, record_next, no_records, records_read, tail_read, accepted_book, refused_book, book_of}

read-size : (s : List ℕ) (resources : ℕ) (r : Reading) (jobs : ℕ) → length (upto (record_next s resources) jobs (no_records r)).records ≡ 32
unfolding upto record_next no_records
read-size s resources r zero = length-replicate 32 empty_record
read-size s resources r (suc i) = length-set (upto (record_next s resources) i (no_records r)).records i _ ∙ read-size s resources r i

pub span-size : (s : List ℕ) (resources : ℕ) (r : Reading) (jobs : ℕ) → length (upto (record_next s resources) jobs (no_records r)).spans ≡ 32
unfolding upto record_next no_records
span-size s resources r zero = length-replicate 32 empty_span
span-size s resources r (suc i) = length-set (upto (record_next s resources) i (no_records r)).spans i _ ∙ span-size s resources r i

module _ (s : List ℕ) where
  abbrev h : HeaderRead
  h = header_of s

  abbrev b : Records
  b = records_read s h.jobs h.resources h.reading

  abbrev last : Reading
  last = tail_read s b.reading

  pub records_size : length (book_of s).records ≡ 32
  unfolding book_of records_read accepted_book refused_book
  records_size =
      by-test (ltb 0 last.number) _ _ (λ (x : Book). length x.records ≡ 32)
      (λ e. length-replicate 32 empty_record) (λ e. read-size s h.resources h.reading h.jobs)

  pub spans-size : length (book_of s).spans ≡ 32
  unfolding book_of records_read accepted_book refused_book
  spans-size =
      by-test (ltb 0 last.number) _ _ (λ (x : Book). length x.spans ≡ 32)
      (λ e. length-replicate 32 empty_span) (λ e. span-size s h.resources h.reading h.jobs)

  -- a refused book has no jobs
  pub jobs-accepted : (i : ℕ) → i < (book_of s).jobs → (book_of s).number ≡ 0
  unfolding book_of accepted_book refused_book
  jobs-accepted i = by-test (ltb 0 last.number) _ _ (λ (x : Book). i < x.jobs → x.number ≡ 0) (λ e l. absurd (omega arith)) (λ e l. refl)
