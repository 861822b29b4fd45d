-- What rests on specs/Exactly.antt.
use Rattle.std.specs.Prelude.{ℕ, suc, ◌<◌, ◌≤◌, ◌≡◌, refl, ◌↔◌, List}
use Rattle.std.proofs.Common.{arith}
use Rattle.laws.specs.Count.{upto}
use Rattle.cursor.specs.Reading.{Reading}
use Rattle.book.specs.Read.{Records}
use Rattle.cursor.specs.Field.{got_at}
use Rattle.cursor.specs.Header.{header_of}
use Rattle.book.specs.Format.{record_read, record_next, no_records, records_read, book_of}
use Rattle.accepted.specs.Fields.{Onward, onward}
use Rattle.accepted.specs.Sticks.{unrefused-before, tail-sticks, loop-sticks}
use Rattle.accepted.proofs.Sticks.{record-next-sticks, records-sticks}
use Rattle.accepted.specs.Layout.{Bytes, jobs_at, resources_at, now_at, job_place}
use Rattle.accepted.specs.Kept.{RecordKept, BookKept}
use Rattle.accepted.specs.Headers.{header-got}
use Rattle.accepted.proofs.Headers.{header-back}
use Rattle.accepted.specs.JobRecords.{RecordGot}
use Rattle.accepted.proofs.JobRecords.{record-got, record-back}
use Rattle.accepted.specs.Exactly.{BookGot, Recorded, book-read, last-passed, read, recorded, tail-back, whole}

module _ (s : List ℕ) (resources : ℕ) (few : resources ≤ 32) where
  module _ (jobs : ℕ) (top : jobs ≤ 32) (r : Reading) (o : Onward r 9) where
    records-got : Bytes s → ((i : ℕ) → i < jobs → RecordKept s resources i) → Recorded s jobs (records_read s jobs resources r)
    unfolding records_read
    records-got b k = (recorded s resources few jobs top r o) (λ i lt l. record-got s i resources (omega arith) few ((read s resources few jobs top r o) i).holders l.agree ((read s resources few jobs top r o) i).reading l.going b (k i lt)) jobs (omega arith)

    records-back : (records_read s jobs resources r).reading.number ≡ 0 → ((i : ℕ) → i < jobs → RecordKept s resources i) × Recorded s jobs (records_read s jobs resources r)
    unfolding records_read upto record_next
    records-back h = (λ i lt. (one i lt (all i (omega arith))).0, all jobs (omega arith))
      where
        one : (i : ℕ) → i < jobs → Recorded s i ((read s resources few jobs top r o) i) → RecordKept s resources i × RecordGot s i (record_read s i resources ((read s resources few jobs top r o) i).holders ((read s resources few jobs top r o) i).reading)
        one i lt l = record-back s i resources (omega arith) few ((read s resources few jobs top r o) i).holders l.agree ((read s resources few jobs top r o) i).reading l.going (unrefused-before (loop-sticks (λ (x : Records). x.reading) (record_next s resources) (record-next-sticks s resources) (no_records r) (suc i) jobs lt) h)

        all : (i : ℕ) → i ≤ jobs → Recorded s i ((read s resources few jobs top r o) i)
        all = (recorded s resources few jobs top r o) (λ i lt l. (one i lt l).1)

module _ (s : List ℕ) where
  pub book-got : Bytes s → BookKept s → BookGot s (book_of s)
  book-got b k = (book-read s) k.header (records-got s (resources_at s) k.header.resources (jobs_at s) k.header.jobs (got_at 5 4 (now_at s)) (onward refl refl) b k.each) k.tail

  pub book-back : (book_of s).number ≡ 0 → BookKept s × BookGot s (book_of s)
  book-back h =
      let head = header_of s in
      let h2 = (last-passed s) h in
      let h1 = unrefused-before (tail-sticks s (records_read s head.jobs head.resources head.reading).reading) h2 in
      let k = header-back s (unrefused-before (records-sticks s head.jobs head.resources head.reading) h1) in
      let e = header-got s k in
      let l = records-back s (resources_at s) k.resources (jobs_at s) k.jobs (got_at 5 4 (now_at s)) (onward refl refl) (rw e at h1) in
      let z = tail-back s (whole s).reading (job_place s (jobs_at s)) l.1.going (rw e at h2) in
      (record { header = k; each = l.0; tail = z }, (book-read s) k l.1 z)

-- ACCEPTED EXACTLY: a string of bytes is accepted if and only if it keeps every rule
pub accepted-exactly : (s : List ℕ) → Bytes s → ((book_of s).number ≡ 0) ↔ BookKept s
accepted-exactly s b = (λ h. (book-back s h).0, λ k. (book-got s b k).number)
