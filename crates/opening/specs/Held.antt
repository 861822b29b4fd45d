-- What a record's held list gives its job: each entry stands at its resource, and a resource that no entry names is free.
use Prim.Native.Nat.{ℕ, zero, suc, ◌<◌, ◌≤◌}
use Rattle.std.proofs.Common.{not-suc-le-zero, arith, sym, ◌∙◌, inl, inr, get_or-set_same}
use Rattle.std.proofs.Math.Decide.{ℕ_discrete}
use Rattle.std.specs.Prelude.{◌≡◌, ◌⊎◌, List, length, get_or, replicate}
use Rattle.std.proofs.Math.Path.{refl, ap}
use Rattle.std.proofs.Math.ListN.{length-set}
use Rattle.std.proofs.Math.Seq.{get_or-set_other}
use Rattle.laws.specs.Count.{upto}
use Rattle.laws.specs.Search.{search-below}
use Rattle.job.specs.declared.Held.{Held}
use Rattle.job.specs.Held.{free}
use Rattle.book.specs.declared.Entry.{Entry}
use Rattle.book.specs.Read.{Record}
use Rattle.book.specs.Format.{no_entry}
use Rattle.invariants.specs.Vacant.{vacant-free}
use Rattle.opening.specs.Start.{held_of_entry, with_entry, held_from}

abbrev pub entry_at : Record → ℕ → Entry
entry_at x k = get_or x.held k no_entry

-- the entries are at most 32, for resources below 32, of which none is named twice
pub record Apart (x : Record) : Type 0 where
  pub few : x.holds ≤ 32
  pub below : (k : ℕ) → k < x.holds → (entry_at x k).resource < 32
  pub once : (k m : ℕ) → k < x.holds → m < x.holds → (entry_at x k).resource ≡ (entry_at x m).resource → k ≡ m

-- entry k is for r
pub record Names (x : Record) (r k : ℕ) : Type 0 where
  pub among : k < x.holds
  pub is : (entry_at x k).resource ≡ r

-- an entry is for r, or none is
pub named-or-free : (x : Record) (r : ℕ) → ((k : ℕ) × Names x r k) ⊎ ((k : ℕ) → Names x r k → ⊥)
named-or-free x r = elim (search-below (λ k. ℕ_discrete (entry_at x k).resource r) x.holds) [
  | inl z ↦ inl (z.0, record { among = z.1; is = z.2 })
  | inr none ↦ inr (λ k n. none k n.among n.is)
]

module _ (x : Record) where
  -- the first n entries, by resource
  abbrev laid : ℕ → List Held
  laid n = upto (λ i held. with_entry (entry_at x i) held) n (replicate 32 free)

  laid-size : (n : ℕ) → length (laid n) ≡ 32
  unfolding upto
  laid-size zero = refl
  laid-size (suc n) = rw length-set (laid-size n)

  pub laid-free : (n r : ℕ) → ((k : ℕ) → k < n → (entry_at x k).resource ≡ r → ⊥) → get_or (laid n) r free ≡ free
  unfolding upto
  laid-free zero r none = vacant-free r
  laid-free (suc n) r none =
      get_or-set_other (laid n) (entry_at x n).resource r _ free (λ e. none n (omega arith) (sym e)) ∙ laid-free n r (λ k l. none k (omega arith))

  pub laid-entry : Apart x → (n k : ℕ) → n ≤ x.holds → k < n → get_or (laid n) (entry_at x k).resource free ≡ held_of_entry (entry_at x k)
  unfolding upto
  laid-entry a zero k h l = absurd (not-suc-le-zero l)
  laid-entry a (suc n) k h l = elim (ℕ_discrete k n) [
    | yes e ↦ rw e (get_or-set_same (laid n) (entry_at x n).resource _ free (omega (arith, laid-size n, a.below n (omega arith))))
    | no ne ↦
        get_or-set_other (laid n) (entry_at x n).resource (entry_at x k).resource _ free (λ e. ne (a.once k n (omega arith) (omega arith) e))
        ∙ laid-entry a n k (omega arith) (omega arith)
  ]

  pub held-size : length (held_from x) ≡ 32
  unfolding held_from
  held-size = laid-size _

  module _ (a : Apart x) where
    pub all_laid : held_from x ≡ laid x.holds
    unfolding held_from
    all_laid = ap laid (omega (arith, a.few))
