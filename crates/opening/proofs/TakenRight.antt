-- What rests on specs/TakenRight.antt.
use Prim.Native.Nat.{ℕ, min, ◌<◌, ◌≤◌}
use native.Mathlib.Omega.{arith}
use Rattle.std.specs.Prelude.{◌≡◌, List, length, get_or}
use Rattle.std.proofs.Common.{sym, ap, ◌∙◌, inl, inr, ext_get_or}
use Rattle.std.proofs.lemmas.List.{length-map}
use Rattle.laws.specs.Search.{lt-or-le}
use Rattle.laws.specs.Listed.{listed_at, listed-past, length-listed}
use Rattle.book.specs.Format.{book_of}
use Rattle.accepted.specs.Layout.{record_at, holds_at, curve_place, job_place}
use Rattle.accepted.specs.Good.{record_of}
use Rattle.gus.specs.State.{vacant, job_at}
use Rattle.opening.specs.Start.{job_from, jobs_from}
use Rattle.opening.specs.Sound.{job_is, job-past}
use Rattle.opening.specs.Taken.{job_in, jobs_in, head-there}
use Rattle.opening.specs.TakenRight.{among, b, curve-inside, good, held_same, is, kept, taken}

-- ---- a record that stands inside the bytes, with at most 32 entries
module _ (s : List ℕ) (p : ℕ) (inside : curve_place s p ≤ length s) (few : holds_at s p ≤ 32) where
  job-same : job_in s p ≡ job_from (record_at s p)
  unfolding job_in job_from
  job-same = rw (head-there s p inside, (held_same s p inside few))

module _ (s : List ℕ) (accepted : (book_of s).number ≡ 0) where
  module _ (i : ℕ) (l : i < (b s accepted).jobs) where
    pub job-taken : job_in s (job_place s i) ≡ job_from (record_of (b s accepted) i)
    job-taken = job-same s (job_place s i) (curve-inside s accepted i l) ((kept s accepted).each i (among s accepted i l)).good.holds ∙ ap job_from (is s accepted i l)

  module _ (starts : List ℕ) (right : (i : ℕ) → i < (b s accepted).jobs → get_or starts i 0 ≡ job_place s i) where
    job-in : (i : ℕ) → get_or (taken s accepted starts right) i vacant ≡ job_at (jobs_from (b s accepted)) i
    job-in i = elim (lt-or-le i (b s accepted).jobs) [
      | inl l ↦ listed_at 32 vacant (λ k. job_in s (get_or starts k 0)) (b s accepted).jobs i (good s accepted).jobs l ∙ ap (job_in s) (right i l) ∙ job-taken i l ∙ sym (job_is (b s accepted) i)
      | inr l ↦ listed-past 32 vacant (λ k. job_in s (get_or starts k 0)) (b s accepted).jobs i l ∙ sym (job-past (good s accepted) i l)
    ]

    all-taken : (taken s accepted starts right) ≡ jobs_from (b s accepted)
    all-taken =
        let size = length-listed 32 vacant (λ k. job_in s (get_or starts k 0)) (b s accepted).jobs in
        ext_get_or vacant (taken s accepted starts right) (jobs_from (b s accepted)) (size ∙ sym (length-map (b s accepted).records job_from ∙ (good s accepted).records_size)) (λ i l. job-in i)

    pub jobs-taken : jobs_in s starts (b s accepted).jobs ≡ jobs_from (b s accepted)
    unfolding jobs_in
    jobs-taken =
        let e : min (b s accepted).jobs 32 ≡ (b s accepted).jobs = omega (arith, (good s accepted).jobs) in
        rw (e, all-taken)
