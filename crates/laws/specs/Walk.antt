-- Walking along a graph in which each place has one edge out: the places are the numbers below n, and a walk that comes to any other number stays there.
use Prim.Native.Nat.{ℕ, zero, suc, ◌+◌, ◌-◌, ◌<◌, ◌≤◌}
use Rattle.std.proofs.Math.Nat.{zero-add, suc-add}
use Rattle.std.proofs.Common.{add_comm, add-one, arith, sym, ◌∙◌, inl, inr, lt-ltb, le-ltb}
use Rattle.std.specs.Prelude.{◌≡◌, cond, ltb}
use Rattle.std.proofs.Math.Path.{refl, ap}
use Rattle.laws.specs.Search.{lt-or-le}

-- a number that is no place is its own next, so that a walk is defined for any number of steps
unfoldable pub step : (ℕ → ℕ) → ℕ → ℕ → ℕ
step f n i = cond (ltb i n) (f i) i

-- where k steps from i lead: the first step is taken first, so that the clauses compute along the walk
unfoldable pub follow : (ℕ → ℕ) → ℕ → ℕ → ℕ → ℕ
follow f n zero i = i
follow f n (suc k) i = follow f n k (step f n i)

module _ (f : ℕ → ℕ) (n : ℕ) where
  pub step_in : (i : ℕ) → i < n → step f n i ≡ f i
  unfolding step
  step_in i h = rw (lt-ltb i n h)

  step-out : (i : ℕ) → n ≤ i → step f n i ≡ i
  unfolding step
  step-out i h = rw (le-ltb i n h)

  pub follow-zero : (i : ℕ) → follow f n 0 i ≡ i
  unfolding follow
  follow-zero i = refl

  pub follow-in : (k i : ℕ) → i < n → follow f n (suc k) i ≡ follow f n k (f i)
  unfolding follow
  follow-in k i h = ap (follow f n k) (step_in i h)

  pub follow-out : (k i : ℕ) → n ≤ i → follow f n k i ≡ i
  unfolding follow
  follow-out zero i h = refl
  follow-out (suc k) i h = ap (follow f n k) (step-out i h) ∙ follow-out k i h

  -- a walk of a + b steps is two walks, the second from where the first ends: all that is said below of parts of a walk is read off this
  pub follow-add : (a b i : ℕ) → follow f n (a + b) i ≡ follow f n b (follow f n a i)
  unfolding follow
  follow-add zero b i = rw zero-add
  follow-add (suc a) b i = rw suc-add (follow-add a b (step f n i))

  -- so two walks one after the other come to the same place in either order
  pub follow-swap : (a b i : ℕ) → follow f n a (follow f n b i) ≡ follow f n b (follow f n a i)
  follow-swap a b i = sym (follow-add b a i) ∙ ap (λ (k : ℕ). follow f n k i) (add_comm b a) ∙ follow-add a b i

  -- for an induction on a walk's length that keeps its start
  pub follow-last : (k i : ℕ) → follow f n (suc k) i ≡ step f n (follow f n k i)
  unfolding follow
  follow-last k i = rw (add-one k) at (follow-add k 1 i)

  pub follow-part : (a b i : ℕ) → a ≤ b → follow f n (b - a) (follow f n a i) ≡ follow f n b i
  follow-part a b i h =
      let e : a + (b - a) ≡ b = omega arith in
      sym (follow-add a (b - a) i) ∙ ap (λ (k : ℕ). follow f n k i) e

  -- what has left does not come back, so a walk that ends inside was inside all along
  pub was-in : (a b i : ℕ) → a ≤ b → follow f n b i < n → follow f n a i < n
  was-in a b i h l = elim (lt-or-le (follow f n a i) n) [
    | inl x ↦ x
    | inr x ↦ absurd (omega (arith, follow-part a b i h, follow-out (b - a) (follow f n a i) x))
  ]

-- outside the graph a step asks no edge, so two graphs need agree only inside
step_same : (f g : ℕ → ℕ) (n x : ℕ) → (x < n → g x ≡ f x) → step g n x ≡ step f n x
step_same f g n x h = elim (lt-or-le x n) [
  | inl l ↦ step_in g n x l ∙ h l ∙ sym (step_in f n x l)
  | inr l ↦ step-out g n x l ∙ sym (step-out f n x l)
]

-- two graphs with the same edges along a walk of the one have that walk in common
pub same-walk : (f g : ℕ → ℕ) (n i : ℕ) → ((m : ℕ) → follow g n m i < n → g (follow g n m i) ≡ f (follow g n m i)) → (m : ℕ) → follow g n m i ≡ follow f n m i
same-walk f g n i h zero = follow-zero g n i ∙ sym (follow-zero f n i)
same-walk f g n i h (suc m) =
    follow-last g n m i ∙ step_same f g n (follow g n m i) (h m) ∙ ap (step f n) (same-walk f g n i h m) ∙ sym (follow-last f n m i)
