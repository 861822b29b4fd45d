-- No circle of waits: a proper part makes none. All that stays true between parts.
use Rattle.std.specs.Prelude.{ℕ, ◌≤◌, ◌≡◌, List}
use Rattle.laws.specs.Circle.{NoCircle}
use Rattle.job.specs.declared.Job.{Job}
use Rattle.gus.specs.State.{job_at}
use Rattle.gus.specs.Waits.{nobody, holder_of, waits_for}
use Rattle.invariants.specs.Sound.{Sound, free-past}
use Rattle.invariants.specs.Holders.{holder-free}

pub holder-past : {js : List Job} → Sound js → (r : ℕ) → 32 ≤ r → holder_of js r ≡ nobody
holder-past s r l = holder-free r (free-past s r l)

-- a job without a request waits for nobody
pub waits-none : {js : List Job} → Sound js → (i : ℕ) → 32 ≤ (job_at js i).request.resource → waits_for js i ≡ nobody
waits-none {js} s i l = holder-past s (job_at js i).request.resource l

-- ALL THAT STAYS TRUE BETWEEN PARTS
pub record Ready (js : List Job) : Type 0 where
  pub sound : Sound js
  pub clear : NoCircle (waits_for js) 32
