-- Every span that the reader gives lies inside the book, so that a part may be cut there.
use Prim.Native.Nat.{ℕ, zero, suc, zero-le, ◌≤◌}
use Rattle.std.proofs.Common.{arith}
use Rattle.std.specs.Prelude.{◌≡◌, List, [], ◌∷◌, ltb, length, get_or, set, replicate}
use borrow.Author.Tests.{ltb-false}
use Rattle.laws.specs.Count.{upto}
use Rattle.book.specs.declared.Span.{Span}
use Rattle.book.specs.Read.{Book, Records, Found}
use Rattle.cursor.specs.Outcome.{by-test}
use Rattle.cursor.specs.Header.{header_of}
use Rattle.book.specs.Format.{record_read, empty_span, record_next, no_records, records_read, tail_read, accepted_book, refused_book, book_of}
use Rattle.book.specs.Question.{found_in}
use Rattle.book.specs.Onward.{Ahead, Onward, header-on, record-on, tail-on}

-- a span of a book of n bytes
pub record Spanned (n start end : ℕ) : Type 0 where
  pub ordered : start ≤ end
  pub inside : end ≤ n

-- the spans of a list, and what stands past its end
pub record AllSpanned (n : ℕ) (l : List Span) : Type 0 where
  pub each : (k : ℕ) → Spanned n (get_or l k empty_span).start (get_or l k empty_span).end

module _ (n : ℕ) where
  no_span : Spanned n 0 0
  no_span = record { ordered = omega arith; inside = zero-le }

  no-spans : (m k : ℕ) → Spanned n (get_or (replicate m empty_span) k empty_span).start (get_or (replicate m empty_span) k empty_span).end
  no-spans zero k = no_span
  no-spans (suc m) zero = no_span
  no-spans (suc m) (suc k) = no-spans m k

  set-spanned : (l : List Span) (i : ℕ) (x : Span) → Spanned n x.start x.end → AllSpanned n l → (k : ℕ) → Spanned n (get_or (set l i x) k empty_span).start (get_or (set l i x) k empty_span).end
  set-spanned [] i x h all k = all.each k
  set-spanned (y ∷ l) zero x h all zero = h
  set-spanned (y ∷ l) zero x h all (suc k) = all.each (suc k)
  set-spanned (y ∷ l) (suc i) x h all zero = all.each 0
  set-spanned (y ∷ l) (suc i) x h all (suc k) = set-spanned l i x h (record { each = λ k. all.each (suc k) }) k

module _ (s : List ℕ) where
  -- what holds of the records read so far, unless they are refused
  record Sound (b : Records) : Type 0 where
    inside : b.reading.number ≡ 0 → b.reading.next ≤ length s
    spans : b.reading.number ≡ 0 → AllSpanned (length s) b.spans

  sound-next : (resources i : ℕ) (b : Records) → Sound b → Sound (record_next s resources i b)
  unfolding record_next
  sound-next resources i b h =
      let o = (record_read s i resources b.holders b.reading).reading in
      let on : Onward s b.reading o = record-on s i resources b.holders b.reading in
      record {
        inside = λ z. (on.ahead z).inside (h.inside (on.ahead z).accepted);
        spans = λ z.
            let a : Ahead s b.reading o = on.ahead z in
            record { each = set-spanned (length s) b.spans i _ (record { ordered = a.further; inside = a.inside (h.inside a.accepted) }) (h.spans a.accepted) };
      }

  sound-upto : (resources n : ℕ) (b : Records) → Sound b → Sound (upto (record_next s resources) n b)
  unfolding upto
  sound-upto resources zero b h = h
  sound-upto resources (suc n) b h = sound-next resources n (upto (record_next s resources) n b) (sound-upto resources n b h)

  sound-records : (jobs resources : ℕ) → Sound (records_read s jobs resources (header_of s).reading)
  unfolding records_read no_records
  sound-records jobs resources = sound-upto resources jobs _ (record {
    inside = λ z. ((header-on s).ahead z).inside zero-le;
    spans = λ z. record { each = no-spans (length s) 32 };
  })

  -- of a refused book too: its spans are empty
  book-spanned : AllSpanned (length s) (book_of s).spans
  unfolding book_of accepted_book refused_book
  book-spanned =
      let h = header_of s in
      let b = records_read s h.jobs h.resources h.reading in
      let last = tail_read s b.reading in
      by-test (ltb 0 last.number) _ _ (λ (x : Book). AllSpanned (length s) x.spans)
      (λ e. record { each = no-spans (length s) 32 })
      (λ e.
      let z : last.number ≡ 0 = omega (arith, ltb-false 0 last.number e) in
      (sound-records h.jobs h.resources).spans ((tail-on s b.reading).ahead z).accepted)

  pub found-spanned : (job : ℕ) → Spanned (length s) (found_in s job).start (found_in s job).end
  unfolding found_in
  found-spanned job =
      let b = book_of s in
      let P : Found → Type 0 = λ f. Spanned (length s) f.start f.end in
      by-test (ltb 0 b.number) _ _ P (λ e. no_span (length s)) (λ e.
      by-test (ltb job b.jobs) _ _ P (λ e. book-spanned.each job) (λ e. no_span (length s)))
