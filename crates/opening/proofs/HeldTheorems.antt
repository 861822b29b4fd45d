-- What rests on specs/Held.antt.
use Prim.Native.Nat.{ℕ, ◌<◌}
use Rattle.std.proofs.Common.{arith}
use Rattle.std.specs.Prelude.{◌≡◌}
use Rattle.std.proofs.Math.Path.{ap}
use Rattle.job.specs.declared.Held.{Held}
use Rattle.job.specs.Held.{free}
use Rattle.job.specs.Job.{held_at, hold_of, rollback_of}
use Rattle.book.specs.Read.{Record}
use Rattle.opening.specs.Start.{held_of_entry, job_from}
use Rattle.opening.specs.Held.{Apart, Names, all_laid, entry_at, laid-entry, laid-free}

module _ (x : Record) where
  module _ (a : Apart x) where
    entry-held : (k : ℕ) → k < x.holds → held_at (job_from x) (entry_at x k).resource ≡ held_of_entry (entry_at x k)
    unfolding job_from
    entry-held k l = rw (all_laid x a) ((laid-entry x) a x.holds k (omega arith) l)

    other-free : (r : ℕ) → ((k : ℕ) → Names x r k → ⊥) → held_at (job_from x) r ≡ free
    unfolding job_from
    other-free r none = rw (all_laid x a) ((laid-free x) x.holds r (λ k l e. none k (record { among = l; is = e })))

    -- EACH ENTRY gives its hold and its rollback,
    pub hold-entry : (k : ℕ) → k < x.holds → hold_of (job_from x) (entry_at x k).resource ≡ (entry_at x k).hold
    hold-entry k l = ap (λ (h : Held). h.hold) (entry-held k l)

    pub rollback-entry : (k : ℕ) → k < x.holds → rollback_of (job_from x) (entry_at x k).resource ≡ (entry_at x k).rollback
    rollback-entry k l = ap (λ (h : Held). h.rollback) (entry-held k l)

    -- and what no entry names is not held
    pub hold-none : (r : ℕ) → ((k : ℕ) → Names x r k → ⊥) → hold_of (job_from x) r ≡ 0
    hold-none r none = ap (λ (h : Held). h.hold) (other-free r none)

    pub rollback-none : (r : ℕ) → ((k : ℕ) → Names x r k → ⊥) → rollback_of (job_from x) r ≡ 0
    rollback-none r none = ap (λ (h : Held). h.rollback) (other-free r none)
