-- Victims sent back, one of each circle at least and none marked never: then no circle is left.
use Rattle.std.specs.Prelude.{ℕ, ◌<◌, ◌≤◌, ◌≡◌, refl, ◌⊎◌, List, length}
use Rattle.std.proofs.Common.{arith, ap, ◌∙◌, inl, inr}
use Rattle.laws.specs.Circle.{OnCircle, Reaches}
use Rattle.laws.specs.Rewire.{cutting}
use Rattle.job.specs.declared.Job.{Job}
use Rattle.job.specs.Times.{never}
use Rattle.job.specs.Job.{hold_of}
use Rattle.job.specs.Fit.{Fit}
use Rattle.gus.specs.State.{job_at}
use Rattle.gus.specs.Waits.{holder_of, waits_for}
use Rattle.gus.specs.Victims.{sent_back}
use Rattle.invariants.specs.Sound.{Sound}
use Rattle.invariants.specs.Holders.{holder-same}
use Rattle.invariants.specs.Waiting.{waits-none, Ready}

-- js' is js with victims sent back; each circle has one
pub record Sent (js js' : List Job) : Type 0 where
  pub size : length js' ≡ length js
  pub each : (i : ℕ) → (job_at js' i ≡ job_at js i) ⊎ ((job_at js' i ≡ sent_back (job_at js i)) × ((job_at js i).rollback < never))
  pub cut : (i : ℕ) → OnCircle (waits_for js) 32 i → (k : ℕ) × Reaches (waits_for js) 32 i k × (job_at js' k ≡ sent_back (job_at js k))

fit-sent : {j : Job} → Fit j → j.rollback < never → Fit (sent_back j)
fit-sent f l = record {
  size = f.size;
  holds = f.holds;
  rollbacks = f.rollbacks;
  both = f.both;
  most = f.most;
  marked = f.marked;
  asks = λ m. absurd (omega arith);
  none = λ m. refl;
  rolls = λ e. omega arith;
  real = λ e. l;
}

module _ {js js' : List Job} (s : Sound js) (t : Sent js js') where
  hold-sent : (i r : ℕ) → hold_of (job_at js' i) r ≡ hold_of (job_at js i) r
  hold-sent i r = elim (t.each i) [ inl e ↦ ap (λ (j : Job). hold_of j r) e | inr e ↦ ap (λ (j : Job). hold_of j r) e.0 ]

  pub sound-sent : Sound js'
  sound-sent = record {
    size = t.size ∙ s.size;
    fit = λ i. elim (t.each i) [ inl e ↦ rw e (s.fit i) | inr e ↦ rw e.0 (fit-sent (s.fit i) e.1) ];
    one = λ a b r x y. s.one a b r (omega (arith, hold-sent a r)) (omega (arith, hold-sent b r));
  }

  holder-sent : (r : ℕ) → holder_of js' r ≡ holder_of js r
  holder-sent r = holder-same js js' r 0 t.size (λ k. hold-sent k r)

  -- a job that was sent back waits for nobody
  sent-waits : (k : ℕ) → job_at js' k ≡ sent_back (job_at js k) → 32 ≤ waits_for js' k
  sent-waits k e = omega (arith, waits-none sound-sent k (rw e (omega arith)))

  pub ready-sent : Ready js'
  ready-sent = record {
    sound = sound-sent;
    clear = cutting change (λ i c. let x = t.cut i c in (x.1.after, rw x.1.there (sent-waits x.0 x.2)));
  }
    where
      change : (k : ℕ) → k < 32 → (waits_for js' k ≡ waits_for js k) ⊎ (32 ≤ waits_for js' k)
      change k l = elim (t.each k) [
        | inl e ↦ inl (ap (λ (j : Job). holder_of js' j.request.resource) e ∙ holder-sent (job_at js k).request.resource)
        | inr e ↦ inr (sent-waits k e.0)
      ]
