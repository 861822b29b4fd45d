-- No more jobs are left than the book has.
use Rattle.std.specs.Prelude.{◌≤◌, List}
use Rattle.std.proofs.Common.{arith, ap, inl}
use Rattle.job.specs.declared.Job.{Job}
use Rattle.job.specs.Part.{ended-not-left}
use Rattle.book.specs.Read.{Book}
use Rattle.accepted.specs.Good.{Good}
use Rattle.gus.specs.State.{job_at}
use Rattle.invariants.specs.Left.{count_left, count-jobs}
use Rattle.opening.specs.Start.{jobs_from}
use Rattle.opening.specs.Sound.{job-past}
use Rattle.opening.specs.Falls.{Falls}

pub few-left : {b : Book} → Good b → (js : List Job) → Falls (jobs_from b) js → count_left js ≤ b.jobs
few-left {b} g js f = count-jobs js b.jobs (λ i l. ended-not-left (job_at js i) (inl (omega (arith, f.run i, ap (λ (j : Job). j.run) (job-past g i l)))))
