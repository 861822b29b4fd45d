-- What is taken of a record where it stands, of any bytes at any place. A place from which a record's held list runs past the end of the
-- bytes is a place without a job.
use Prim.Native.Nat.{ℕ, zero, suc, min, ◌+◌, ◌<◌, ◌≤◌}
use Rattle.std.proofs.Common.{arith, ap, inl, inr, le-leb}
use Rattle.std.specs.Prelude.{◌≡◌, false, cond, List, leb, eqb, length, get_or, set, replicate}
use Rattle.std.proofs.Math.Path.{refl, sym}
use Rattle.std.proofs.Math.ListN.{length-set, get_or-eq_default}
use Rattle.std.proofs.lemmas.Bool.{lt-leb}
use Rattle.laws.specs.Count.{upto, Counting, count-ended}
use Rattle.laws.specs.Listed.{listed}
use Rattle.laws.specs.Search.{lt-or-le}
use Rattle.cursor.specs.Field.{value_at}
use Rattle.job.specs.declared.Held.{Held}
use Rattle.job.specs.declared.Job.{Job}
use Rattle.job.specs.Held.{free}
use Rattle.job.specs.Job.{no_request}
use Rattle.accepted.specs.Layout.{entry_place, request_at, holds_at, held_at, curve_place}
use Rattle.gus.specs.State.{vacant}
use Rattle.opening.specs.declared.head.Head.{Head}
use Rattle.opening.specs.Start.{with_entry}

abbrev pub no_head : Head
no_head = record { rolling = false; run = 0; rollback = 0; request = no_request; holds = 0 }

-- a record's first 11 bytes, "mode 1 (0 normal, 1 rollback)"
abbrev pub head_at : List ℕ → ℕ → Head
head_at s p = record {
  rolling = eqb (value_at s p 1) 1;
  run = value_at s (p + 1) 2;
  rollback = value_at s (p + 3) 2;
  request = request_at s (p + 5);
  holds = holds_at s p;
}

-- where these and the whole held list are there
unfoldable pub head_in : List ℕ → ℕ → Head
head_in s p = cond (leb (curve_place s p) (length s)) (head_at s p) no_head

abbrev pub entry_laid_at : List ℕ → ℕ → ℕ → List Held → List Held
entry_laid_at s p k held = with_entry (held_at s p k) held

-- the first n entries of the record at p, by resource
abbrev pub held_in : List ℕ → ℕ → ℕ → List Held
held_in s p n = upto (entry_laid_at s p) n (replicate 32 free)

-- THE JOB OF THE RECORD AT A PLACE
unfoldable pub job_in : List ℕ → ℕ → Job
job_in s p =
    let h = head_in s p in
    record { rolling = h.rolling; run = h.run; rollback = h.rollback; request = h.request; held = held_in s p h.holds }

-- THE JOBS of the first n of the records that start at these places
unfoldable pub jobs_in : List ℕ → List ℕ → ℕ → List Job
jobs_in s starts n = listed 32 vacant (λ i. job_in s (get_or starts i 0)) (min n 32)

abbrev pub job_taken : List ℕ → List ℕ → ℕ → List Job → List Job
job_taken s starts i jobs = set jobs i (job_in s (get_or starts i 0))

pub jobs-made : (s starts : List ℕ) (n : ℕ) {jobs : List Job} {count i : ℕ} → count ≡ min n 32 → Counting (job_taken s starts) count (replicate 32 vacant) jobs i → count ≤ i → jobs ≡ jobs_in s starts n
unfolding jobs_in listed
jobs-made s starts n e inv le = rw (count-ended inv le, e)

module _ (s : List ℕ) (p : ℕ) where
  pub head-there : curve_place s p ≤ length s → head_in s p ≡ head_at s p
  unfolding head_in
  head-there h = rw (le-leb (curve_place s p) (length s) h)

  pub head-cut : length s < curve_place s p → head_in s p ≡ no_head
  unfolding head_in
  head-cut h = rw (lt-leb (curve_place s p) (length s) h)

  -- an entry that a head counts is there
  pub entry-inside : (k : ℕ) → k < (head_in s p).holds → entry_place (p + 10) k + 5 ≤ length s
  entry-inside k l = elim (lt-or-le (length s) (curve_place s p)) [
    | inl h ↦ absurd (omega (arith, ap (λ (x : Head). x.holds) (head-cut h)))
    | inr h ↦ omega (arith, ap (λ (x : Head). x.holds) (head-there h))
  ]

  pub held-size : (n : ℕ) → length (held_in s p n) ≡ 32
  unfolding upto
  held-size zero = refl
  held-size (suc n) = rw length-set (held-size n)

  pub held-past : {r : ℕ} → 32 ≤ r → free ≡ get_or (job_in s p).held r free
  unfolding job_in
  held-past h = sym (get_or-eq_default (held_in s p (head_in s p).holds) free (omega (arith, held-size (head_in s p).holds)))

  -- the head's fields, with its entries laid one after the other
  pub job-made : {h : Head} {held : List Held} {k : ℕ} → h ≡ head_in s p → Counting (entry_laid_at s p) h.holds (replicate 32 free) held k → h.holds ≤ k → ◌≡◌ {A = Job} (record { rolling = h.rolling; run = h.run; rollback = h.rollback; request = h.request; held = held }) (job_in s p)
  unfolding job_in
  job-made e inv le = rw (count-ended inv le, e)
