-- The holders of an accepted book are those that the planner finds by search.
use Rattle.std.specs.Prelude.{ℕ, ◌<◌, ◌≡◌, length, get_or}
use Rattle.std.proofs.Common.{arith, sym, ap, ◌∙◌, inl, inr}
use Rattle.job.specs.Job.{hold_of}
use Rattle.job.specs.Fit.{held_below}
use Rattle.book.specs.Read.{Book}
use Rattle.laws.specs.Inside.{inside}
use Rattle.accepted.specs.Good.{Good}
use Rattle.gus.specs.State.{job_at}
use Rattle.gus.specs.Waits.{holder_of}
use Rattle.invariants.specs.Holders.{holder}
use Rattle.opening.specs.Start.{jobs_from}
use Rattle.opening.proofs.Sound.{entry-holds, holds-entry, sound-from}

module _ {b : Book} (g : Good b) where
  -- who holds r is the holder of r
  held_by : (i r : ℕ) → 0 < hold_of (job_at (jobs_from b) i) r → get_or b.holders r 255 ≡ i
  held_by i r h =
      let x = holds-entry g i r h in
      let room : r < length b.holders = omega (arith, g.holders_size, held_below ((sound-from g).fit i) r h) in
      inside b.holders r 255 0 room ∙ ap (λ (z : ℕ). get_or b.holders z 0) (sym x.2) ∙ g.holder i x.0 x.1

  -- for every resource, also past the last
  pub holders-agree : (r : ℕ) → get_or b.holders r 255 ≡ holder_of (jobs_from b) r
  holders-agree r = elim (holder (jobs_from b) r) [
    | inl x ↦ held_by (holder_of (jobs_from b) r) r x.1
    | inr x ↦ g.free r (λ i k s e. absurd (omega (arith, entry-holds g i k s, ap (hold_of (job_at (jobs_from b) i)) e, x.free.at i))) ∙ sym x.is
  ]
