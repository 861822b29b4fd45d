-- What rests on specs/Holders.antt.
use Rattle.std.specs.Prelude.{ℕ, ◌≡◌, List}
use Rattle.std.proofs.Math.Decide.{ℕ_discrete, dec_lt}
use Rattle.std.proofs.Common.{arith, ap, inl, inr, lt-ltb, le-ltb, eq-eqb, ne_eqb}
use Rattle.job.specs.declared.Job.{Job}
use Rattle.job.specs.Job.{hold_of}
use Rattle.gus.specs.declared.Part.{Part}
use Rattle.gus.specs.State.{worked_by, after}
use Rattle.gus.specs.Waits.{nobody, holder_of}
use Rattle.invariants.specs.Sound.{Sound}
use Rattle.invariants.specs.Proper.{Proper, at_same, at_other, sound-after, free-after, only-holder}
use Rattle.invariants.specs.Holders.{holder, holder-free, holder-is, holder_after}

-- THE HOLDER OF A RESOURCE AFTER A PART
pub holder-step : {js : List Job} {p : Part} → Sound js → Proper js p → (r : ℕ) → holder_of (after js p) r ≡ holder_after p.job (hold_of (worked_by js p) r) (holder_of js r)
holder-step {js} {p} s g r = elim (dec_lt 0 (hold_of (worked_by js p) r)) [
  | yes h ↦ rw (lt-ltb 0 (hold_of (worked_by js p) r) h) (holder-is (sound-after s g) p.job r (omega (arith, ap (λ (j : Job). hold_of j r) (at_same s g))))
  | no h ↦ rw (le-ltb 0 (hold_of (worked_by js p) r) (omega arith)) (elim (holder js r) [
    | inl x ↦ elim (ℕ_discrete (holder_of js r) p.job) [
      | yes e ↦ rw (eq-eqb (holder_of js r) p.job e) (holder-free r (free-after s g r (omega arith) (only-holder s g r (rw e at x.1))))
      | no ne ↦ rw (ne_eqb (holder_of js r) p.job ne) (holder-is (sound-after s g) (holder_of js r) r (omega (arith, x.1, ap (λ (j : Job). hold_of j r) (at_other js p (holder_of js r) ne))))
    ]
    | inr x ↦ rw (x.is, ne_eqb nobody p.job (λ e. absurd (omega (arith, g.alive.there)))) (holder-free r (free-after s g r (omega arith) (λ a ne. omega (arith, x.free.at a))))
  ])
]
