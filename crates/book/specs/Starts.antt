-- Where the records of a book start and end: each starts where the one before it ends, and the first after the header.
use Rattle.std.specs.Prelude.{ℕ, zero, suc, ◌+◌, ◌<◌, ◌≤◌, ◌≡◌, refl, List, ltb, length, set}
use Rattle.std.proofs.Math.Numerals.{add-one}
use Rattle.std.proofs.Common.{eq-or-lt_of_le, le_of_suc-le-suc, arith, ◌∙◌, get_or-set_other}
use Rattle.std.proofs.Math.Path.{sym, ap}
use Rattle.std.proofs.Math.Logic.{⊎_elim}
use Rattle.std.proofs.Math.ListN.{get_or, get_or-map}
use Rattle.std.proofs.Math.Seq.{get_or-set_same}
use borrow.Author.Tests.{ltb-false}
use Rattle.laws.specs.Count.{upto-each}
use Rattle.cursor.specs.Reading.{Reading, HeaderRead}
use Rattle.cursor.specs.Outcome.{by-test}
use Rattle.cursor.specs.Header.{header_of}
use Rattle.book.specs.declared.Span.{Span}
use Rattle.book.specs.Read.{Book, Records}
use Rattle.book.specs.Format.{record_read, empty_span, record_next, no_records, records_read, tail_read, accepted_book, refused_book, book_of}
use Rattle.book.specs.Onward.{Onward, record-on, tail-on, upto-on}
use Rattle.book.specs.Size.{span-size}
use Rattle.book.specs.HeaderBytes.{header-bytes, header-few}
use Rattle.book.specs.Judging.{ends_from}
use Rattle.book.specs.Judged.{starts_of}

module _ (first : ℕ) where
  -- a record laid down at m is the end before place m + 1, and no other
  ends-kept : (l : List Span) (m k : ℕ) (x : Span) → k ≤ m → get_or (ends_from first (set l m x)) k 0 ≡ get_or (ends_from first l) k 0
  ends-kept l m zero x h = refl
  ends-kept l m (suc k) x h =
      get_or-map (λ (y : Span). y.end) (set l m x) k empty_span
      ∙ ap (λ (y : Span). y.end) (get_or-set_other l m k x empty_span (λ e. omega arith))
      ∙ sym (get_or-map (λ (y : Span). y.end) l k empty_span)

  -- of the records so far
  record Chained (m : ℕ) (b : Records) : Type 0 where
    here : b.reading.next ≡ get_or (ends_from first b.spans) m 0
    each : (k : ℕ) → k < m → (get_or b.spans k empty_span).start ≡ get_or (ends_from first b.spans) k 0

  chained-next : (s : List ℕ) (resources m : ℕ) (b : Records) → m < length b.spans → Chained m b → Chained (suc m) (record_next s resources m b)
  unfolding record_next
  chained-next s resources m b room c =
      let end = (record_read s m resources b.holders b.reading).reading.next in
      let x : Span = record { start = b.reading.next; end = end } in
      let laid : get_or (set b.spans m x) m empty_span ≡ x = get_or-set_same b.spans m x empty_span room in
      record {
        here = sym (get_or-map (λ (y : Span). y.end) (set b.spans m x) m empty_span ∙ ap (λ (y : Span). y.end) laid);
        each = λ k h.
            ⊎_elim
            (λ e. rw e (ap (λ (y : Span). y.start) laid ∙ c.here ∙ sym (ends-kept b.spans m m x (omega arith))))
            (λ lt. ap (λ (y : Span). y.start) (get_or-set_other b.spans m k x empty_span (λ e. omega arith)) ∙ c.each k lt ∙ sym (ends-kept b.spans m k x (omega arith)))
            (eq-or-lt_of_le (le_of_suc-le-suc h));
      }

chained : (s : List ℕ) (resources jobs : ℕ) (r : Reading) → jobs ≤ 32 → Chained r.next jobs (records_read s jobs resources r)
unfolding records_read no_records
chained s resources jobs r few = upto-each (Chained r.next) (record_next s resources) jobs (no_records r) begin (λ m h c. chained-next r.next s resources m _ (omega (arith, span-size s resources r m)) c) jobs (omega arith)
  where
    begin : Chained r.next 0 (no_records r)
    begin = record { here = refl; each = λ k h. absurd (omega arith) }

-- of the book
module _ (s : List ℕ) where
  abbrev h : HeaderRead
  h = header_of s

  abbrev b : Records
  b = records_read s h.jobs h.resources h.reading

  abbrev last : Reading
  last = tail_read s b.reading

  -- where the book is not refused, its first record starts after the header's 9 bytes
  pub first-start : last.number ≡ 0 → h.reading.next ≡ 9
  unfolding records_read no_records record_next
  first-start z =
      let records : Onward s h.reading b.reading = upto-on s (record_next s h.resources) (λ (x : Records). x.reading) (λ i x. record-on s i h.resources x.holders x.reading) h.jobs (no_records h.reading) in
      header-bytes s (records.ahead ((tail-on s b.reading).ahead z).accepted).accepted

  pub start_is : (job : ℕ) → job < (book_of s).jobs → (get_or (book_of s).spans job empty_span).start ≡ get_or (starts_of (book_of s)) job 0
  unfolding book_of accepted_book refused_book starts_of
  start_is job =
      by-test (ltb 0 last.number) _ _ (λ (x : Book). job < x.jobs → (get_or x.spans job empty_span).start ≡ get_or (starts_of x) job 0)
      (λ e l. absurd (omega arith))
      (λ e l.
      (chained s h.resources h.jobs h.reading (header-few s)).each job l
      ∙ ap (λ n. get_or (ends_from n b.spans) job 0) (first-start (omega (arith, ltb-false 0 last.number e))))

  pub end_is : (job : ℕ) → (get_or (book_of s).spans job empty_span).end ≡ get_or (starts_of (book_of s)) (job + 1) 0
  unfolding starts_of
  end_is job = rw add-one (sym (get_or-map (λ (x : Span). x.end) (book_of s).spans job empty_span))

  pub jobs-few : (book_of s).jobs ≤ 32
  unfolding book_of accepted_book refused_book
  jobs-few = by-test (ltb 0 last.number) _ _ (λ (x : Book). x.jobs ≤ 32) (λ e. omega arith) (λ e. header-few s)
