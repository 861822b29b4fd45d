-- What rests on specs/Waiting.antt.
use Rattle.std.specs.Prelude.{ℕ, ◌<◌, ◌≤◌, ◌≡◌, cond, ◌⊎◌, eqb, List}
use Rattle.std.proofs.Math.Decide.{ℕ_discrete}
use Rattle.std.proofs.Common.{arith, sym, ap, ◌∙◌, inl, inr, eq-eqb, ne_eqb}
use Rattle.laws.specs.Circle.{NoCircle}
use Rattle.laws.specs.Rewire.{settling}
use Rattle.job.specs.declared.Job.{Job}
use Rattle.job.specs.Job.{hold_of}
use Rattle.gus.specs.declared.Part.{Part}
use Rattle.gus.specs.State.{job_at, worked_by, after}
use Rattle.gus.specs.Waits.{nobody, holder_of, waits_for}
use Rattle.invariants.specs.Sound.{Sound}
use Rattle.invariants.specs.Proper.{Proper, at_other, at-request, holder-after, sound-after}
use Rattle.invariants.specs.Holders.{holder, holder-is, holder_after}
use Rattle.invariants.proofs.Holders.{holder-step}
use Rattle.invariants.specs.Waiting.{Ready, waits-none}

-- R-6, WHOM JOB I WAITS FOR AFTER A PART, "grants, releases, removals and rollbacks" in one law: the part's job waits for nobody, and for each other
-- job the holder of what it requests changes as any holder does. A removal is no case of its own: who has ended holds nothing.
pub waits-step : {js : List Job} {p : Part} → Sound js → Proper js p → (i : ℕ) → waits_for (after js p) i ≡ cond (eqb i p.job) nobody (holder_after p.job (hold_of (worked_by js p) (job_at js i).request.resource) (waits_for js i))
waits-step {js} {p} s g i = elim (ℕ_discrete i p.job) [
  | yes e ↦ rw (eq-eqb i p.job e) (ap (waits_for (after js p)) e ∙ waits-none (sound-after s g) p.job (at-request s g))
  | no ne ↦ rw (ne_eqb i p.job ne) (ap (λ (j : Job). holder_of (after js p) j.request.resource) (at_other js p i ne) ∙ holder-step s g (job_at js i).request.resource)
]

-- Afterwards the part's job waits for nobody, and each other job for whom it waited for, or for nobody, or for that job.
pub no-circle-after : {js : List Job} {p : Part} → Sound js → Proper js p → NoCircle (waits_for js) 32 → NoCircle (waits_for (after js p)) 32
no-circle-after {js} {p} s g = settling change
  where
    still : waits_for (after js p) p.job ≡ nobody
    still = waits-none (sound-after s g) p.job (at-request s g)

    change : (k : ℕ) → k < 32 → (waits_for (after js p) k ≡ waits_for js k) ⊎ (32 ≤ waits_for (after js p) k) ⊎ (32 ≤ waits_for (after js p) (waits_for (after js p) k))
    change k l = elim (ℕ_discrete k p.job) [
      | yes e ↦ inr (inl (omega (arith, ap (waits_for (after js p)) e, still)))
      | no ne ↦
          let r : ℕ = (job_at js k).request.resource in
          let q : waits_for (after js p) k ≡ holder_of (after js p) r = ap (λ (j : Job). holder_of (after js p) j.request.resource) (at_other js p k ne) in
          elim (holder (after js p) r) [
            | inl x ↦ elim (holder-after s g (holder_of (after js p) r) r x.1) [
              | inl y ↦ inl (q ∙ sym (holder-is s (holder_of (after js p) r) r y))
              | inr y ↦ inr (inr (omega (arith, ap (waits_for (after js p)) (q ∙ y.0), still)))
            ]
            | inr x ↦ inr (inl (omega (arith, q, x.is)))
          ]
    ]

pub ready-after : {js : List Job} {p : Part} → Ready js → Proper js p → Ready (after js p)
ready-after y g = record { sound = sound-after y.sound g; clear = no-circle-after y.sound g y.clear }
