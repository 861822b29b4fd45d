-- The loop that follows waits, from the end of an array to its start.
use Rattle.std.specs.Prelude.{◌≡◌, length, get_or, set}
use Rattle.std.proofs.Math.Path.{refl, sym, ap}
use Rattle.std.proofs.Common.{◌∙◌, not-suc-le-zero, get_or-set_same, get_or-set_other}
use mathlib.Core.List.{List, [], ◌∷◌}
use Prim.Native.Nat.{ℕ, zero, suc, ◌+◌, ◌-◌, ◌<◌, ◌≤◌}
use native.Mathlib.Omega.{arith}
use borrow.Author.Tests.{le-leb, lt-leb}
use Rattle.std.proofs.Math.ListN.{length-set}
use Rattle.gus.specs.Waits.{chain_to, chain_of}
use Rattle.laws.specs.Placed.{Below, placed, chain_in, chain_more}

-- an array and a place that hold the chain of i
pub record Followed (waits : ℕ → ℕ) (i : ℕ) (members : List ℕ) (from : ℕ) : Type 0 where
  pub low : from < 32
  pub below : Below 32 members
  pub chain : chain_in members from ≡ chain_of waits i

set_below : (m x : ℕ) (l : List ℕ) (k j : ℕ) → x < m → get_or l j 0 < m → get_or (set l k x) j 0 < m
set_below m x [] k j p h = h
set_below m x (y ∷ ys) zero zero p h = p
set_below m x (y ∷ ys) zero (suc j) p h = h
set_below m x (y ∷ ys) (suc k) zero p h = h
set_below m x (y ∷ ys) (suc k) (suc j) p h = set_below m x ys k j p h

placed-set : (l : List ℕ) (k x n j : ℕ) → k < j → placed (set l k x) n j ≡ placed l n j
unfolding placed
placed-set l k x zero j h = refl
placed-set l k x (suc n) j h = λ i. get_or-set_other l k j x 0 (λ e. apart e h) i ∷ placed-set l k x n (suc j) (omega arith) i
  where
    apart : j ≡ k → k < j → ⊥
    apart e h = omega arith

chain-set : (l : List ℕ) (k x : ℕ) → length l ≡ 32 → k < 32 → chain_in (set l k x) k ≡ x ∷ chain_in l (k + 1)
unfolding chain_in
chain-set l k x e h =
    let lt : k < length l = omega arith in
    chain_more (set l k x) k h ∙ (λ i. get_or-set_same l k x 0 lt i ∷ placed-set l k x (32 - (k + 1)) (k + 1) (omega arith) i)

module _ (w : ℕ → ℕ) where
  one : (n k : ℕ) (r : List ℕ) → 0 < n → k < 32 → chain_to w n k r ≡ chain_to w (n - 1) (w k) (k ∷ r)
  unfolding chain_to
  one zero k r h q = absurd (not-suc-le-zero h)
  one (suc n) k r h q = let e : suc n - 1 ≡ n = omega arith in rw (e, lt-leb 32 k q, chain_to)

  stop : (n k : ℕ) (r : List ℕ) → 32 ≤ k → chain_to w n k r ≡ r
  unfolding chain_to
  stop zero k r q = refl
  stop (suc n) k r q = rw (le-leb 32 k q, chain_to)

-- who waits for nobody is its whole chain
pub chain-alone : (waits : ℕ → ℕ) (i : ℕ) → i < 32 → 32 ≤ waits i → chain_of waits i ≡ i ∷ []
unfolding chain_of
chain-alone waits i h q = one waits 32 i [] (omega arith) h ∙ stop waits 31 (waits i) (i ∷ []) q

-- the chain so far is at places from .. 32, and job is whom its first member waits for
pub record Following (waits : ℕ → ℕ) (i : ℕ) (members : List ℕ) (from job : ℕ) : Type 0 where
  pub low : from ≤ 31
  pub long : length members ≡ 32
  pub below : Below 32 members
  pub chain : chain_to waits from job (chain_in members from) ≡ chain_of waits i

module _ {waits : ℕ → ℕ} {i : ℕ} where
  pub following-begin : {l : List ℕ} {job : ℕ} → length l ≡ 32 → Below 32 l → i < 32 → job ≡ waits i → Following waits i (set l 31 i) 31 job
  unfolding chain_of chain_in placed
  following-begin {l} n b h e = record {
    low = omega arith;
    long = length-set l 31 i ∙ n;
    below = record { below = λ j. set_below 32 i l 31 j h (b.below j) };
    chain = rw (chain-set l 31 i n (omega arith), e) (sym (one waits 32 i [] (omega arith) h));
  }

  module _ {l : List ℕ} {from job : ℕ} (f : Following waits i l from job) where
    pub following-next : {next : ℕ} → 0 < from → job < 32 → next ≡ waits job → Following waits i (set l (from - 1) job) (from - 1) next
    following-next h q e = record {
      low = omega (arith, f.low);
      long = length-set l (from - 1) job ∙ f.long;
      below = record { below = λ j. set_below 32 job l (from - 1) j q (f.below.below j) };
      chain =
          let s : from - 1 + 1 ≡ from = omega arith in
          let c : chain_in (set l (from - 1) job) (from - 1) ≡ job ∷ chain_in l from = rw s at (chain-set l (from - 1) job f.long (omega (arith, f.low))) in
          rw (c, e) (sym (one waits from job (chain_in l from) h q) ∙ f.chain);
    }

    pub following-stopped : 32 ≤ job → Followed waits i l from
    following-stopped q = record { low = omega (arith, f.low); below = f.below; chain = sym (stop waits from job (chain_in l from) q) ∙ f.chain }

    pub following-ended : from ≤ 0 → Followed waits i l from
    unfolding chain_to
    following-ended q =
        let z : from ≡ 0 = omega arith in
        let e : chain_to waits from job (chain_in l from) ≡ chain_in l from = ap (λ (n : ℕ). chain_to waits n job (chain_in l from)) z in
        record { low = omega arith; below = f.below; chain = sym e ∙ f.chain }
