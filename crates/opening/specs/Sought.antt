-- The search in a record's held list for what it holds of one resource.
use Rattle.std.specs.Prelude.{ℕ, suc, ◌-◌, ◌<◌, ◌≤◌, ◌≡◌, List, get_or}
use Rattle.std.proofs.Common.{arith, ◌∙◌, get_or-set_same}
use Rattle.std.proofs.Math.Path.{refl, sym}
use Rattle.std.proofs.Math.Seq.{get_or-set_other}
use Rattle.laws.specs.Count.{upto}
use Rattle.job.specs.Held.{free}
use Rattle.accepted.specs.Layout.{held_at}
use Rattle.invariants.specs.Vacant.{vacant-free}
use Rattle.opening.specs.declared.head.Head.{Head}
use Rattle.opening.specs.Start.{held_of_entry}
use Rattle.opening.specs.Taken.{head_in, held_in, job_in, held-size}

-- From the last entry of the record at p back: the first k entries are left, and none after them is for r.
pub record Sought (s : List ℕ) (p r k : ℕ) : Type 0 where
  pub within : k ≤ (head_in s p).holds
  pub left : get_or (job_in s p).held r free ≡ get_or (held_in s p k) r free

module _ {s : List ℕ} {p r : ℕ} where
  pub sought-begin : {h : Head} → h ≡ head_in s p → Sought s p r h.holds
  unfolding job_in
  sought-begin e = rw e (record { within = omega arith; left = refl })

  pub sought-some : {k : ℕ} → Sought s p r k → 0 < k → Sought s p r (suc (k - 1))
  sought-some {k} w h = let e : k ≡ suc (k - 1) = omega arith in rw e at w

  -- the last entry that is left is for r
  pub sought-found : {k : ℕ} → Sought s p r (suc k) → r < 32 → (held_at s p k).resource ≡ r → held_of_entry (held_at s p k) ≡ get_or (job_in s p).held r free
  unfolding upto
  sought-found {k} w low e = sym (w.left ∙ rw (← e) (get_or-set_same (held_in s p k) (held_at s p k).resource (held_of_entry (held_at s p k)) free (omega (arith, held-size s p k))))

  pub sought-on : {k : ℕ} → Sought s p r (suc k) → ((held_at s p k).resource ≡ r → ⊥) → Sought s p r k
  unfolding upto
  sought-on {k} w ne = record {
    within = omega (arith, w.within);
    left = w.left ∙ get_or-set_other (held_in s p k) (held_at s p k).resource r (held_of_entry (held_at s p k)) free (λ e. ne (sym e));
  }

  pub sought-none : Sought s p r 0 → free ≡ get_or (job_in s p).held r free
  unfolding upto
  sought-none w = sym (w.left ∙ vacant-free r)
