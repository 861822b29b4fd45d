-- The jobs on a wait circle are left; so among sound jobs a victim's loss is a fraction, and it is the least.
use Rattle.std.specs.Prelude.{ℕ, zero, suc, ◌<◌, ◌≤◌, ◌≡◌, true, List}
use Rattle.std.proofs.Common.{not-suc-le-zero, arith, sym, ◌∙◌}
use Rattle.laws.specs.Walk.{follow, follow-last, step_in}
use Rattle.laws.specs.Circle.{OnCircle, circle-stays}
use Rattle.job.specs.declared.Job.{Job}
use Rattle.gus.specs.State.{job_at}
use Rattle.gus.specs.Waits.{waits_for}
use Rattle.gus.specs.View.{Pay, view_of}
use Rattle.gus.specs.Victims.{loss_of, victim_of}
use Rattle.invariants.specs.Sound.{Sound, Member, holder-left}
use Rattle.invariants.specs.Holders.{holder-holds}
use Rattle.invariants.specs.Circles.{circle-met}
use Rattle.invariants.specs.Winner.{Timed, Wins}
use Rattle.invariants.specs.Victim.{Candidate, loses_less, victim-least}

module _ {js : List Job} (s : Sound js) where
  -- the job before it on the circle waits for it, so it holds something
  pub circle-left : {i : ℕ} → OnCircle (waits_for js) 32 i → Member js i
  circle-left {i} c = go c.steps c.some_steps c.back
    where
      go : (k : ℕ) → 1 ≤ k → follow (waits_for js) 32 k i ≡ i → Member js i
      go zero h e = absurd (not-suc-le-zero h)
      go (suc k) h e =
          let x : ℕ = follow (waits_for js) 32 k i in
          let w : waits_for js x ≡ i = sym (step_in (waits_for js) 32 x (circle-stays c k)) ∙ sym (follow-last (waits_for js) 32 k i) ∙ e in
          let r : ℕ = (job_at js x).request.resource in
          rw w at (holder-left s (waits_for js x) r (holder-holds s r (omega (arith, c.node))))

  module _ (pay : Pay) (t low : ℕ) (l : low < 32) where
    timed : Timed loses_less (Candidate (view_of pay js) low) (loss_of (view_of pay js) t)
    unfolding loss_of
    timed = record { some = λ i m. (circle-left (circle-met (waits_for js) i (omega (arith, m.member)))).run_some }

    pub least-loss : (victim_of (view_of pay js) t low).some ≡ true → Wins loses_less (Candidate (view_of pay js) low) (loss_of (view_of pay js) t) 32 (victim_of (view_of pay js) t low).last
    least-loss e = victim-least (view_of pay js) t low timed e
