-- What rests on specs/Sound.antt.
use Rattle.std.specs.Prelude.{ℕ, ◌<◌, ◌≡◌}
use Rattle.std.proofs.Common.{arith, sym, ap, ◌∙◌, inl, inr}
use Rattle.std.proofs.lemmas.List.{length-map}
use Rattle.laws.specs.Search.{lt-or-le}
use Rattle.job.specs.declared.Job.{Job}
use Rattle.job.specs.Job.{hold_of}
use Rattle.job.specs.Fit.{Fit}
use Rattle.book.specs.Read.{Book}
use Rattle.accepted.specs.Good.{record_of, entry_of, Stands, Good}
use Rattle.gus.specs.State.{job_at}
use Rattle.invariants.specs.Vacant.{vacant-holds, vacant-fit}
use Rattle.invariants.specs.Sound.{Sound}
use Rattle.opening.specs.Start.{job_from, jobs_from}
use Rattle.opening.specs.Held.{named-or-free}
use Rattle.opening.proofs.HeldTheorems.{hold-entry, hold-none}
use Rattle.opening.proofs.Fit.{fit-from}
use Rattle.opening.specs.Sound.{apart, job-past, job_is}

module _ {b : Book} (g : Good b) where
  -- an entry of a held list gives its job a hold, and nothing else does
  pub entry-holds : (i k : ℕ) → Stands b i k → 0 < hold_of (job_at (jobs_from b) i) (entry_of b i k).resource
  entry-holds i k s = rw (job_is b i, hold-entry (record_of b i) ((apart g) i s.job) k s.among) ((g.each i s.job).entry k s.among).some

  pub holds-entry : (i r : ℕ) → 0 < hold_of (job_at (jobs_from b) i) r → (k : ℕ) × Stands b i k × ((entry_of b i k).resource ≡ r)
  holds-entry i r h = elim (lt-or-le i b.jobs) [
    | inl l ↦ elim (named-or-free (record_of b i) r) [
      | inl z ↦ (z.0, record { job = l; among = z.1.among }, z.1.is)
      | inr none ↦ absurd (omega (arith, ap (λ (j : Job). hold_of j r) (job_is b i), hold-none (record_of b i) ((apart g) i l) r none))
    ]
    | inr l ↦ absurd (omega (arith, ap (λ (j : Job). hold_of j r) ((job-past g) i l), vacant-holds r))
  ]

  pub sound-from : Sound (jobs_from b)
  sound-from = record {
    size = length-map b.records job_from ∙ g.records_size;
    fit = fits;
    one = λ i j r p q.
        let x = holds-entry i r p in
        let y = holds-entry j r q in
        (g.one_list i x.0 j y.0 x.1 y.1 (x.2 ∙ sym y.2)).0;
  }
    where
      fits : (i : ℕ) → Fit (job_at (jobs_from b) i)
      fits i = elim (lt-or-le i b.jobs) [
        | inl l ↦ rw (job_is b i) (fit-from g.resources (g.each i l) ((apart g) i l))
        | inr l ↦ rw ((job-past g) i l) vacant-fit
      ]
