-- How far the groups of a round go, whatever the way of choosing a mode.
use Rattle.std.specs.Prelude.{◌≡◌, Bool, leb, length}
use Rattle.std.proofs.Math.Path.{refl, ap}
use Rattle.std.proofs.Math.Bool.{true, false}
use mathlib.Core.List.{List, [], ◌∷◌}
use Prim.Native.Nat.{ℕ, zero, suc, ◌+◌, ◌<◌, ◌≤◌}
use Rattle.std.proofs.Common.{arith}
use Rattle.std.proofs.lemmas.Bool.{lt-leb}
use Rattle.laws.specs.Count.{upto}
use Rattle.gus.specs.declared.Course.{Course}
use Rattle.gus.specs.declared.Best.{Best}
use Rattle.gus.specs.Waits.{chain_to, chain_of}
use Rattle.gus.specs.View.{View}
use Rattle.gus.specs.Course.{start, to_free, denser}
use Rattle.gus.specs.Choice.{Way}
use Rattle.gus.specs.Group.{grow, group_of}
use Rattle.gus.specs.Round.{better, offered, consider, no_best, best_of}
use Rattle.planner.specs.Bounds.{Modest, Small, small-more, small-start}
use Rattle.planner.specs.Turn.{small-to-free, small-to-end}

-- a walk of n steps along the waits finds at most n members, and keeps those that it has
chain-grows : (waits : ℕ → ℕ) (n j : ℕ) (l : List ℕ) → (length l ≤ length (chain_to waits n j l)) × (length (chain_to waits n j l) ≤ n + length l)
unfolding chain_to
chain-grows waits zero j l = (omega arith, omega arith)
chain-grows waits (suc n) j l = by (leb 32 j) (chain-grows waits n (waits j) (j ∷ l))
  where
    by : (b : Bool) → (suc (length l) ≤ length (chain_to waits n (waits j) (j ∷ l))) × (length (chain_to waits n (waits j) (j ∷ l)) ≤ n + suc (length l)) → (length l ≤ length {A = ℕ} (elim b [ true ↦ l | false ↦ chain_to waits n (waits j) (j ∷ l) ])) × (length {A = ℕ} (elim b [ true ↦ l | false ↦ chain_to waits n (waits j) (j ∷ l) ]) ≤ suc n + length l)
    by true h = (omega arith, omega arith)
    by false h = (omega (arith, h.0), omega (arith, h.1))

-- a job's chain has at most 32 members, and one at least
pub chain-short : (waits : ℕ → ℕ) (i : ℕ) → length (chain_of waits i) ≤ 32
unfolding chain_of
chain-short waits i = omega (arith, (chain-grows waits 32 i []).1)

chain-some : (waits : ℕ → ℕ) (i : ℕ) → i < 32 → 0 < length (chain_of waits i)
unfolding chain_of chain_to
chain-some waits i h = by 32 (omega arith)
  where
    by : (n : ℕ) → 0 < n → 0 < length (chain_to waits n i [])
    by zero k = k
    by (suc n) k = rw (lt-leb 32 i h, chain_to) (omega (arith, (chain-grows waits n (waits i) (i ∷ [])).0))

module _ (way : Way) (v : View) (t : ℕ) where
  -- a group has a part for each member of its chain
  length-grow : (l : List ℕ) (c : Course) → length (grow way v t l c).parts ≡ length l
  unfolding grow
  length-grow [] c = refl
  length-grow (i ∷ []) c = refl
  length-grow (i ∷ k ∷ l) c = ap suc (length-grow (k ∷ l) (to_free v t i k (way v t i k l c) c))

  pub group-short : (i : ℕ) → length (group_of way v t i).parts ≤ 32
  unfolding group_of
  group-short i = omega (arith, length-grow (chain_of v.waits i) start, chain-short v.waits i)

  pub group-some : (i : ℕ) → i < 32 → 0 < length (group_of way v t i).parts
  unfolding group_of
  group-some i h = omega (arith, length-grow (chain_of v.waits i) start, chain-some v.waits i h)

  -- job i's group as the best
  abbrev best : ℕ → Best
  best i = record { some = true; last = i; course = (group_of way v t i).course }

  -- what is so of no group and of each job's group is so of the best
  module _ (P : Best → Type 0) (none : P no_best) (one : (i : ℕ) → i < 32 → P (best i)) where
    keeps-better : (i : ℕ) (b : Best) → i < 32 → P b → P (better i (group_of way v t i).course b)
    unfolding better
    keeps-better i b h p = by b.some (denser (group_of way v t i).course b.course)
      where
        by : (x y : Bool) → P (elim x as (λ _. Best) [ true ↦ elim y [ true ↦ best i | false ↦ b ] | false ↦ best i ])
        by true true = one i h
        by true false = p
        by false y = one i h

    keeps-offered : (i : ℕ) (b : Best) → i < 32 → P b → P (offered i (group_of way v t i).course b)
    unfolding offered
    keeps-offered i b h p = by (group_of way v t i).course.inside
      where
        by : (x : Bool) → P (elim x as (λ _. Best) [ true ↦ better i (group_of way v t i).course b | false ↦ b ])
        by true = keeps-better i b h p
        by false = p

    keeps : (n : ℕ) → n ≤ 32 → P (upto (consider way v t) n no_best)
    unfolding upto consider
    keeps zero h = none
    keeps (suc n) h = by (v.left n) (keeps n (omega arith))
      where
        by : (x : Bool) → P (upto (consider way v t) n no_best) → P (elim x as (λ _. Best) [ true ↦ offered n (group_of way v t n).course (upto (consider way v t) n no_best) | false ↦ upto (consider way v t) n no_best ])
        by true p = keeps-offered n (upto (consider way v t) n no_best) h p
        by false p = p

    best_keeps : P (best_of way v t)
    unfolding best_of
    best_keeps = keeps 32 (omega arith)

  -- the last job of the best group is a job
  pub best-below : (best_of way v t).last < 32
  best-below = best_keeps (λ b. b.last < 32) (omega arith) (λ i h. h)

  module _ (m : Modest v) where
    small-grow : (l : List ℕ) (k : ℕ) (c : Course) → Small k c → Small (length l + k) (grow way v t l c).course
    unfolding grow
    small-grow [] k c s = small-more (omega arith) s
    small-grow (i ∷ []) k c s = small-more (omega arith) (small-to-end v m t i k c s)
    small-grow (i ∷ x ∷ l) k c s =
        let b = way v t i x l c in
        small-more (omega arith) (small-grow (x ∷ l) (suc k) (to_free v t i x b c) (small-to-free v m t i x b k c s))

    pub small-group : (i : ℕ) → Small 32 (group_of way v t i).course
    unfolding group_of
    small-group i = small-more (omega (arith, chain-short v.waits i)) (small-grow (chain_of v.waits i) 0 start small-start)
