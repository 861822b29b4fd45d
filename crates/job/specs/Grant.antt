-- What a job has after its request, if any, was granted.
use Rattle.std.specs.Prelude.{ℕ, ◌+◌, ◌<◌, ◌≤◌, ◌≡◌, ◌≢◌, map, length}
use Rattle.std.proofs.Math.Decide.{dec_lt}
use Rattle.std.proofs.Common.{arith, ap, ◌∙◌, length-set, get_or-set_same, get_or-set_other, lt-ltb, le-ltb, ne_eqb}
use Rattle.std.proofs.lemmas.List.{length-map}
use Rattle.std.proofs.Math.ListN.{get_or-map}
use Rattle.job.specs.declared.Held.{Held}
use Rattle.job.specs.declared.Job.{Job}
use Rattle.job.specs.Times.{never, plus, or_never}
use Rattle.job.specs.Held.{free, after_grant}
use Rattle.job.specs.Job.{no_request, held_at, hold_of, rollback_of, all_never, given, granted}

module _ (j : Job) where
  pub granted-none : 32 ≤ j.request.resource → granted j ≡ j
  unfolding granted
  granted-none l = rw (le-ltb j.request.resource 32 l)

  pub granted-some : j.request.resource < 32 → granted j ≡ given j
  unfolding granted
  granted-some l = rw (lt-ltb j.request.resource 32 l)

  pub granted-run : (granted j).run ≡ j.run
  granted-run = elim (dec_lt j.request.resource 32) [ yes l ↦ rw (granted-some l) | no l ↦ rw (granted-none (omega arith)) ]

  pub granted-rolling : (granted j).rolling ≡ j.rolling
  granted-rolling = elim (dec_lt j.request.resource 32) [ yes l ↦ rw (granted-some l) | no l ↦ rw (granted-none (omega arith)) ]

  pub granted-request : 32 ≤ (granted j).request.resource
  granted-request = elim (dec_lt j.request.resource 32) [ yes l ↦ rw (granted-some l) (omega arith) | no l ↦ rw (granted-none (omega arith)) (omega arith) ]

  pub granted-size : length (granted j).held ≡ length j.held
  granted-size = elim (dec_lt j.request.resource 32) [ yes l ↦ rw (granted-some l, length-set, length-map) | no l ↦ rw (granted-none (omega arith)) ]

  -- an entry other than the new one
  pub entry : (r : ℕ) → r ≢ j.request.resource → held_at (given j) r ≡ after_grant (all_never j) j.request.rollback (held_at j r)
  entry r ne = get_or-set_other (map (after_grant (all_never j) j.request.rollback) j.held) j.request.resource r _ free ne ∙ get_or-map (after_grant (all_never j) j.request.rollback) j.held r free

  -- of a job with a request
  module _ (asks : j.request.resource < 32) where
    pub granted-rollback : (granted j).rollback ≡ or_never (all_never j) (plus j.rollback j.request.rollback)
    granted-rollback = rw (granted-some asks)

    -- a grant adds the request's rollback where neither is never
    pub granted-adds : j.rollback < never → j.request.rollback < never → j.rollback + j.request.rollback < never → (granted j).rollback ≡ j.rollback + j.request.rollback
    granted-adds h k s = rw (granted-some asks, ne_eqb j.rollback never (omega arith), ne_eqb j.request.rollback never (omega arith)) (omega arith)

    pub granted-gone : (granted j).request ≡ no_request
    granted-gone = rw (granted-some asks)

    module _ (size : length j.held ≡ 32) {r : ℕ} (e : r ≡ j.request.resource) where
      new : held_at (given j) r ≡ record { hold = j.request.hold; rollback = or_never (all_never j) j.request.rollback }
      new = rw e (get_or-set_same (map (after_grant (all_never j) j.request.rollback) j.held) j.request.resource _ free (rw length-map (omega arith)))

      pub hold-granted-new : hold_of (granted j) r ≡ j.request.hold
      hold-granted-new = rw (granted-some asks) (ap (λ (h : Held). h.hold) new)

      pub rollback-granted-new : rollback_of (granted j) r ≡ or_never (all_never j) j.request.rollback
      rollback-granted-new = rw (granted-some asks) (ap (λ (h : Held). h.rollback) new)
