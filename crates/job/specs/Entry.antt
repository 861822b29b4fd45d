-- The laws of one held resource: its hold and its rollback after a part.
use Rattle.std.specs.Prelude.{ℕ, ◌-◌, ◌<◌, ◌≤◌, ◌≡◌, Bool, cond, leb}
use Rattle.std.proofs.Math.Decide.{dec_lt}
use Rattle.std.proofs.Common.{arith, ◌∙◌, lt-ltb, le-ltb, le-leb}
use Rattle.std.proofs.lemmas.Bool.{lt-leb}
use Rattle.job.specs.declared.Held.{Held}
use Rattle.job.specs.Times.{plus, or_never}
use Rattle.job.specs.Held.{free, after_grant}

-- A time x of a resource that becomes h over a part of n, and is freed if x ends in it: of its hold or rollback f.
module _ (f : Held → ℕ) (none : f free ≡ 0) (x n : ℕ) (h : Held) where
  pub kept : n < x → f (cond (leb x n) free h) ≡ f h
  kept l = rw (lt-leb x n l)

  pub freed : x ≤ n → f (cond (leb x n) free h) ≡ 0
  freed l = rw (le-leb x n l) none

  pub no_more : f (cond (leb x n) free h) ≤ f h
  no_more = elim (dec_lt n x) [ yes l ↦ omega (arith, kept l) | no l ↦ omega (arith, freed (omega arith)) ]

  pub taken : f h ≡ x - n → f (cond (leb x n) free h) ≡ x - n
  taken e = elim (dec_lt n x) [ yes l ↦ kept l ∙ e | no l ↦ omega (arith, freed (omega arith)) ]

module _ (b : Bool) (n : ℕ) (h : Held) where
  pub grant-hold : (after_grant b n h).hold ≡ h.hold
  grant-hold = elim (dec_lt 0 h.hold) [ yes l ↦ rw (lt-ltb 0 h.hold l) | no l ↦ rw (le-ltb 0 h.hold (omega arith)) ]

  pub grant-held : 0 < h.hold → (after_grant b n h).rollback ≡ or_never b (plus h.rollback n)
  grant-held l = rw (lt-ltb 0 h.hold l)

  pub grant-free : h.hold ≤ 0 → (after_grant b n h).rollback ≡ h.rollback
  grant-free l = rw (le-ltb 0 h.hold l)
