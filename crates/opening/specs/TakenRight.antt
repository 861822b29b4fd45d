-- WHAT IS TAKEN FROM THE BYTES OF AN ACCEPTED BOOK IS WHAT ITS RECORDS SAY: its heads and its jobs.
use Prim.Native.Nat.{ℕ, min, ◌+◌, ◌<◌, ◌≤◌}
use native.Mathlib.Omega.{arith}
use Rattle.std.specs.Prelude.{◌≡◌, List, eqb, length, get_or, replicate}
use Rattle.std.proofs.Math.Path.{refl}
use Rattle.std.proofs.Common.{sym, ap, ◌∙◌}
use Rattle.laws.specs.Count.{upto, upto-each}
use Rattle.laws.specs.Listed.{listed, listed_at}
use Rattle.job.specs.declared.Job.{Job}
use Rattle.job.specs.Held.{free}
use Rattle.book.specs.Read.{Record, Book}
use Rattle.book.specs.Format.{no_entry, book_of}
use Rattle.accepted.specs.Layout.{entry_place, record_at, holds_at, held_at, curve_place, jobs_at, job_place}
use Rattle.accepted.specs.Kept.{BookKept}
use Rattle.accepted.specs.Exactly.{BookGot}
use Rattle.accepted.proofs.Exactly.{book-back}
use Rattle.accepted.specs.Good.{Good, record_of, record_is}
use Rattle.accepted.proofs.Good.{accepted-good}
use Rattle.gus.specs.State.{vacant}
use Rattle.opening.specs.declared.head.Head.{Head}
use Rattle.opening.specs.Start.{with_entry, entry_laid, held_from}
use Rattle.opening.specs.Taken.{head_in, entry_laid_at, held_in, job_in, head-there}

-- a record without its held list and its curve
abbrev pub head_from : Record → Head
head_from x = record { rolling = eqb x.mode 1; run = x.run; rollback = x.rollback; request = x.request; holds = x.holds }

-- ---- a record that stands inside the bytes, with at most 32 entries
module _ (s : List ℕ) (p : ℕ) (inside : curve_place s p ≤ length s) (few : holds_at s p ≤ 32) where
  entry-same : (k : ℕ) → k < holds_at s p → get_or (record_at s p).held k no_entry ≡ held_at s p k
  entry-same k l = listed_at 32 no_entry (held_at s p) (holds_at s p) k few l

  pub held_same : held_in s p (holds_at s p) ≡ held_from (record_at s p)
  unfolding upto held_from
  held_same =
      let e : min (holds_at s p) 32 ≡ holds_at s p = omega arith in
      rw e (upto-each (λ n held. held ≡ upto (entry_laid (record_at s p)) n (replicate 32 free)) (entry_laid_at s p) (holds_at s p) (replicate 32 free) refl (λ n l q. rw (entry-same n l) (ap (with_entry (held_at s p n)) q)) (holds_at s p) (omega arith))

module _ (s : List ℕ) (accepted : (book_of s).number ≡ 0) where
  abbrev pub b : Book
  b = book_of s

  pub kept : BookKept s
  kept = (book-back s accepted).0

  got : BookGot s b
  got = (book-back s accepted).1

  pub good : Good b
  good = accepted-good s accepted

  module _ (i : ℕ) (l : i < b.jobs) where
    pub among : i < jobs_at s
    among = rw got.jobs at l

    pub is : record_at s (job_place s i) ≡ record_of b i
    is = sym (record_is s b kept got i among)

    -- the record's curve stands after its held list, inside the book
    pub curve-inside : curve_place s (job_place s i) ≤ length s
    curve-inside = omega (arith, (kept.each i among).fits)

    pub head-taken : head_in s (job_place s i) ≡ head_from (record_of b i)
    head-taken = head-there s (job_place s i) curve-inside ∙ ap head_from is

    pub curve-taken : entry_place (job_place s i + 10) (head_in s (job_place s i)).holds ≡ curve_place s (job_place s i)
    curve-taken = ap (λ (h : Head). entry_place (job_place s i + 10) h.holds) (head-there s (job_place s i) curve-inside)

  module _ (starts : List ℕ) (right : (i : ℕ) → i < b.jobs → get_or starts i 0 ≡ job_place s i) where
    abbrev pub taken : List Job
    taken = listed 32 vacant (λ i. job_in s (get_or starts i 0)) b.jobs
