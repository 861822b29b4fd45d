-- The jobs of an accepted book are sound: each is fit, and nothing has two holders.
use Rattle.std.specs.Prelude.{ℕ, ◌<◌, ◌≤◌, ◌≡◌, get_or}
use Rattle.std.proofs.Common.{arith, sym, ap, ◌∙◌}
use Rattle.std.proofs.Math.ListN.{get_or-map}
use Rattle.job.specs.declared.Job.{Job}
use Rattle.book.specs.Read.{Book}
use Rattle.book.specs.Format.{empty_record}
use Rattle.accepted.specs.Good.{record_of, Good}
use Rattle.gus.specs.State.{vacant, job_at}
use Rattle.opening.specs.Start.{job_from, jobs_from, vacant-from}
use Rattle.opening.specs.Held.{Apart}

-- job i is that of record i, also past the last
pub job_is : (b : Book) (i : ℕ) → job_at (jobs_from b) i ≡ job_from (record_of b i)
job_is b i = ap (λ (j : Job). get_or (jobs_from b) i j) (sym vacant-from) ∙ get_or-map job_from b.records i empty_record

module _ {b : Book} (g : Good b) where
  pub job-past : (i : ℕ) → b.jobs ≤ i → job_at (jobs_from b) i ≡ vacant
  job-past i h = job_is b i ∙ ap job_from (g.past i h) ∙ vacant-from

  pub apart : (i : ℕ) → i < b.jobs → Apart (record_of b i)
  apart i h = record {
    few = (g.each i h).holds;
    below = λ k l. omega (arith, ((g.each i h).entry k l).below, g.resources);
    once = λ k m l n e. (g.one_list i k i m (record { job = h; among = l }) (record { job = h; among = n }) e).1;
  }
