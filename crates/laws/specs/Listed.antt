-- A list of n places that is filled from its first on, as a loop fills an array.
use Rattle.std.specs.Prelude.{ℕ, zero, suc, ◌<◌, ◌≤◌, ◌≡◌, List, length, get_or, set, replicate}
use Rattle.std.proofs.Common.{not-suc-le-zero, arith, ap, ◌∙◌, inl, inr, length-set, get_or-set_same, get_or-set_other}
use Rattle.std.proofs.Math.Decide.{ℕ_discrete}
use Rattle.std.proofs.Math.Path.{refl}
use Rattle.std.proofs.lemmas.List.{length-replicate, get_or-replicate}
use Rattle.std.proofs.Math.ListN.{get_or-eq_default}
use Rattle.laws.specs.Count.{upto}
use Rattle.laws.specs.Search.{lt-or-le}

-- n places, of which the first count have f of their number, and the others z
unfoldable pub listed : {A : Type 0} → ℕ → A → (ℕ → A) → ℕ → List A
listed {A} n z f count = upto (λ (k : ℕ) (l : List A). set l k (f k)) count (replicate n z)

module _ {A : Type 0} (n : ℕ) (z : A) (f : ℕ → A) where
  pub listed-none : listed n z f 0 ≡ replicate n z
  unfolding listed upto
  listed-none = refl

  pub listed_next : (count : ℕ) → listed n z f (suc count) ≡ set (listed n z f count) count (f count)
  unfolding listed upto
  listed_next count = refl

  pub length-listed : (count : ℕ) → length (listed n z f count) ≡ n
  length-listed zero = ap length listed-none ∙ length-replicate n z
  length-listed (suc count) = ap length (listed_next count) ∙ length-set (listed n z f count) count (f count) ∙ length-listed count

  pub listed_at : (count k : ℕ) → count ≤ n → k < count → get_or (listed n z f count) k z ≡ f k
  listed_at zero k h l = absurd (not-suc-le-zero l)
  listed_at (suc count) k h l = elim (ℕ_discrete k count) [
    | yes e ↦
        let lt : count < length (listed n z f count) = omega (arith, length-listed count) in
        rw (e, listed_next count) (get_or-set_same (listed n z f count) count (f count) z lt)
    | no ne ↦ rw (listed_next count) (get_or-set_other (listed n z f count) count k (f count) z ne ∙ listed_at count k (omega arith) (omega arith))
  ]

  none-at : (k : ℕ) → get_or (replicate n z) k z ≡ z
  none-at k = elim (lt-or-le k n) [
    | inl h ↦ get_or-replicate n k z z h
    | inr h ↦ get_or-eq_default (replicate n z) z (omega (arith, length-replicate n z))
  ]

  pub listed-past : (count k : ℕ) → count ≤ k → get_or (listed n z f count) k z ≡ z
  listed-past zero k h = rw listed-none (none-at k)
  listed-past (suc count) k h =
      let ne : k ≡ count → ⊥ = λ e. omega arith in
      rw (listed_next count) (get_or-set_other (listed n z f count) count k (f count) z ne ∙ listed-past count k (omega arith))
