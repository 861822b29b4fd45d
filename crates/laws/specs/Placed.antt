-- A chain at the end of an array of 32 places.
use Rattle.std.specs.Prelude.{◌≡◌, List, [], ◌∷◌, get_or, replicate}
use Rattle.std.proofs.Math.Path.{refl}
use Rattle.std.proofs.Common.{ap, ◌∙◌, add-one}
use Prim.Native.Nat.{ℕ, zero, suc, ◌+◌, ◌-◌, ◌<◌}
use native.Mathlib.Omega.{arith}

-- n members from place k on
unfoldable pub placed : List ℕ → ℕ → ℕ → List ℕ
placed members zero k = []
placed members (suc n) k = get_or members k 0 ∷ placed members n (suc k)

-- the members at places k to 31
unfoldable pub chain_in : List ℕ → ℕ → List ℕ
chain_in members k = placed members (32 - k) k

-- each place has a job's number
pub record Below (m : ℕ) (members : List ℕ) : Type 0 where
  pub below : (k : ℕ) → get_or members k 0 < m

pub zeros-below : (m n : ℕ) → 0 < m → Below m (replicate n 0)
zeros-below m n p = record { below = by n }
  where
    by : (n k : ℕ) → get_or (replicate n 0) k 0 < m
    by zero k = p
    by (suc n) zero = p
    by (suc n) (suc k) = by n k

module _ (members : List ℕ) where
  pub chain_more : (k : ℕ) → k < 32 → chain_in members k ≡ get_or members k 0 ∷ chain_in members (k + 1)
  unfolding chain_in placed
  chain_more k h = let e : 32 - k ≡ suc (32 - (k + 1)) = omega arith in rw (e, add-one)

  pub chain-last : chain_in members 31 ≡ get_or members 31 0 ∷ []
  unfolding chain_in placed
  chain-last = refl

  pub chain-none : chain_in members 32 ≡ []
  unfolding chain_in placed
  chain-none = refl

  pub chain-two : (k : ℕ) → k < 31 → chain_in members k ≡ get_or members k 0 ∷ get_or members (k + 1) 0 ∷ chain_in members (k + 2)
  chain-two k h =
      let e : k + 1 + 1 ≡ k + 2 = omega arith in
      rw e at (chain_more k (omega arith) ∙ ap (λ (rest : List ℕ). get_or members k 0 ∷ rest) (chain_more (k + 1) (omega arith)))

  pub chain_next : (k : ℕ) → k < 31 → chain_in members (k + 1) ≡ get_or members (k + 1) 0 ∷ chain_in members (k + 2)
  chain_next k h = let e : k + 1 + 1 ≡ k + 2 = omega arith in rw e at (chain_more (k + 1) (omega arith))
