-- NO MEMBER OF A WAIT CIRCLE IS IN ROLLBACK, whichever jobs were sent back before: a job in rollback asks for nothing, and one that is sent back loses its request.
use Rattle.std.specs.Prelude.{ℕ, ◌<◌, ◌≤◌, ◌≡◌, refl, Bool, true, false, List}
use Rattle.std.proofs.Common.{arith, inl, inr}
use Rattle.job.specs.declared.Job.{Job}
use Rattle.gus.specs.State.{job_at}
use Rattle.gus.specs.Waits.{waits_for}
use Rattle.gus.specs.Victims.{settled}
use Rattle.invariants.specs.Sound.{Sound}
use Rattle.invariants.specs.Waiting.{holder-past}
use Rattle.laws.specs.Among.{among-or-not}
use Rattle.invariants.specs.Settled.{settled-other, settled_back, holder-settled}

module _ {js : List Job} (s : Sound js) (is : List ℕ) where
  asks_nothing : (i : ℕ) → i < 32 → (job_at (settled js is) i).rolling ≡ true → 32 ≤ (job_at (settled js is) i).request.resource
  asks_nothing i l e = elim (among-or-not i is) [
    | inl a ↦ rw (settled_back js is i (omega (arith, s.size)) a) (omega arith)
    | inr a ↦ let same = settled-other js is i a in rw same ((s.fit i).rolls (rw same at e))
  ]

  waits-for-nobody : (i : ℕ) → 32 ≤ (job_at (settled js is) i).request.resource → 32 ≤ waits_for (settled js is) i
  waits-for-nobody i l =
      let r : ℕ = (job_at (settled js is) i).request.resource in
      omega (arith, holder-settled js is r, holder-past s r l)

  pub waiting-normal : (i : ℕ) → i < 32 → waits_for (settled js is) i < 32 → (job_at (settled js is) i).rolling ≡ false
  waiting-normal i l w = go (job_at (settled js is) i).rolling refl
    where
      go : (b : Bool) → (job_at (settled js is) i).rolling ≡ b → (job_at (settled js is) i).rolling ≡ false
      go false e = e
      go true e = absurd (omega (arith, w, waits-for-nobody i (asks_nothing i l e)))
