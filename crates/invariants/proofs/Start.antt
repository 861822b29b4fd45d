-- What rests on specs/Start.antt.
use Rattle.std.specs.Prelude.{ℕ, ◌<◌, ◌≤◌, ◌≡◌, ◌⊎◌, List}
use Rattle.std.proofs.Common.{arith, inl, inr}
use Rattle.laws.specs.Circle.{OnCircle, Reaches, circle-of-reached}
use Rattle.job.specs.declared.Job.{Job}
use Rattle.job.specs.Times.{never}
use Rattle.gus.specs.State.{job_at}
use Rattle.gus.specs.Waits.{waits_for}
use Rattle.gus.specs.View.{Pay, view_of}
use Rattle.gus.specs.Victims.{victims_of, knot_of, sent_back, settled}
use Rattle.invariants.specs.Sound.{Sound}
use Rattle.invariants.specs.Waiting.{Ready}
use Rattle.laws.specs.Among.{among-or-not}
use Rattle.invariants.proofs.Victims.{victims-on, victims-each}
use Rattle.invariants.specs.Sent.{Sent, ready-sent}
use Rattle.invariants.specs.Settled.{settled-size, settled-other, settled_back}
use Rattle.invariants.specs.Start.{victims}

module _ (pay : Pay) {js : List Job} (t : ℕ) (s : Sound js) (none : 32 ≤ knot_of (view_of pay js) t) where
  sent : Sent js (settled js (victims pay t s none))
  sent = record { size = settled-size js (victims pay t s none); each = each; cut = cut }
    where
      each : (i : ℕ) → (job_at (settled js (victims pay t s none)) i ≡ job_at js i) ⊎ ((job_at (settled js (victims pay t s none)) i ≡ sent_back (job_at js i)) × ((job_at js i).rollback < never))
      each i = elim (among-or-not i (victims pay t s none)) [
        | inl a ↦
            let o = victims-on (view_of pay js) t none i a in
            inr (settled_back js (victims pay t s none) i (omega (arith, s.size, o.0.node)) a, omega (arith, (s.fit i).most, o.1))
        | inr a ↦ inl (settled-other js (victims pay t s none) i a)
      ]

      cut : (i : ℕ) → OnCircle (waits_for js) 32 i → (k : ℕ) × Reaches (waits_for js) 32 i k × (job_at (settled js (victims pay t s none)) k ≡ sent_back (job_at js k))
      cut i c =
          let x = victims-each (view_of pay js) t none i c in
          (x.0, x.2, settled_back js (victims pay t s none) x.0 (omega (arith, s.size, (circle-of-reached c x.2).node)) x.1)

  pub ready-settled : Ready (settled js (victims_of (view_of pay js) t))
  ready-settled = ready-sent s sent
