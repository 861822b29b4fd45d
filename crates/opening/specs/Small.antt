-- Run times of 16 bits: a book's are, and stay so.
use Rattle.std.specs.Prelude.{ℕ, List}
use Rattle.std.proofs.Common.{arith, ap, inl, inr}
use Rattle.laws.specs.Search.{lt-or-le}
use Rattle.job.specs.declared.Job.{Job}
use Rattle.book.specs.Read.{Book}
use Rattle.accepted.specs.Good.{Good}
use Rattle.gus.specs.declared.Part.{Part}
use Rattle.gus.specs.State.{after_all}
use Rattle.gus.specs.Victims.{settled}
use Rattle.invariants.specs.End.{Small}
use Rattle.opening.specs.Start.{job_from, jobs_from}
use Rattle.opening.specs.Sound.{job_is, job-past}
use Rattle.opening.specs.Falls.{Falls, all-falls, settled-falls}

-- "Run time left: 1 to 60,000"
pub small-from : {b : Book} → Good b → Small (jobs_from b)
unfolding job_from
small-from {b} g = record {
  run = λ i. elim (lt-or-le i b.jobs) [
    | inl l ↦ omega (arith, ap (λ (j : Job). j.run) (job_is b i), (g.each i l).run_most)
    | inr l ↦ omega (arith, ap (λ (j : Job). j.run) (job-past g i l))
  ];
}

module _ {js : List Job} (s : Small js) where
  small-falls : {js' : List Job} → Falls js js' → Small js'
  small-falls f = record { run = λ i. omega (arith, s.run i, f.run i) }

  pub small-settled : (is : List ℕ) → Small (settled js is)
  small-settled is = small-falls (settled-falls js is)

  pub small-after-all : (ps : List Part) → Small (after_all js ps)
  small-after-all ps = small-falls (all-falls js ps)
