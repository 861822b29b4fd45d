-- The array of holders: after each part it is as the jobs have it.
use Rattle.std.specs.Prelude.{◌≡◌, ℕ, ◌<◌, length, get_or}
use Rattle.std.proofs.Common.{sym, ap, ◌∙◌, arith}
use Rattle.laws.specs.Each.{length-map_ix}
use Rattle.job.specs.Held.{free}
use Rattle.job.specs.Job.{hold_of}
use Rattle.gus.specs.declared.Part.{Part}
use Rattle.gus.specs.State.{worked_by}
use Rattle.gus.specs.Waits.{nobody, holder_of}
use Rattle.invariants.specs.Sound.{Sound}
use Rattle.invariants.specs.Proper.{Proper}
use Rattle.invariants.specs.Holders.{holder_after}
use Rattle.invariants.proofs.Holders.{holder-step}
use Rattle.planner.specs.declared.State.{State}
use Rattle.planner.specs.Applied.{holders_after, after_part, holder-after}

pub record Holding (s : State) : Type 0 where
  pub size : length s.holders ≡ 32
  pub agree : (r : ℕ) → r < 32 → get_or s.holders r nobody ≡ holder_of s.jobs r

pub holding-after : (s : State) {p : Part} → Sound s.jobs → Proper s.jobs p → Holding s → Holding (after_part s p)
unfolding holders_after
holding-after s {p} y g h = record {
  size = length-map_ix (λ r. holder_after p.job (get_or (worked_by s.jobs p).held r free).hold) s.holders ∙ h.size;
  agree = λ r l.
      holder-after p.job (worked_by s.jobs p).held s.holders r (omega (arith, h.size))
      ∙ ap (holder_after p.job (hold_of (worked_by s.jobs p) r)) (h.agree r l)
      ∙ sym (holder-step y g r);
}
