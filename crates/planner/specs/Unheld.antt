-- What no job has: anything that is no resource. And nobody has anything.
use Rattle.std.specs.Prelude.{◌≡◌, List, ℕ, ◌≤◌, length}
use Rattle.std.proofs.Common.{ap, ◌∙◌, arith}
use Rattle.std.proofs.Math.ListN.{get_or-eq_default}
use Rattle.job.specs.declared.Job.{Job}
use Rattle.job.specs.Held.{free}
use Rattle.job.specs.Job.{held_at}
use Rattle.gus.specs.State.{job_at}
use Rattle.gus.specs.Waits.{nobody}
use Rattle.invariants.specs.Vacant.{vacant-free, vacant-past}
use Rattle.invariants.specs.Sound.{Sound}

pub held-past : {js : List Job} → Sound js → (i r : ℕ) → 32 ≤ r → held_at (job_at js i) r ≡ free
held-past {js} s i r l = get_or-eq_default (job_at js i).held free {n = r} (omega (arith, (s.fit i).size))

pub held-nobody : (js : List Job) → length js ≡ 32 → (r : ℕ) → held_at (job_at js nobody) r ≡ free
held-nobody js size r = ap (λ (j : Job). held_at j r) (vacant-past js size nobody (omega arith)) ∙ vacant-free r
