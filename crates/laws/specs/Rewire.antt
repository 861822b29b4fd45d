-- Changing edges of a graph with one edge out of each place: which changes leave no circle behind.
use Rattle.std.specs.Prelude.{ℕ, ◌<◌, ◌≤◌, ◌≡◌, ◌⊎◌}
use Rattle.std.proofs.Common.{arith, sym, ◌∙◌, inl, inr}
use Rattle.laws.specs.Walk.{follow, follow-zero, follow-in, same-walk}
use Rattle.laws.specs.Circle.{OnCircle, NoCircle, Leaves, circle-after, circle-in}

pub leaves-next : (f : ℕ → ℕ) (n k : ℕ) → k < n → n ≤ f k → Leaves f n k
leaves-next f n k h o = record { after = 1; out = rw (follow-in f n 0 k h ∙ follow-zero f n (f k)) o }

-- the place after one on a circle is on it too, so its edge does not leave either
next-in : {g : ℕ → ℕ} {n x : ℕ} → OnCircle g n x → g (g x) < n
next-in {g} {n} {x} c = circle-in (rw (follow-in g n 0 x c.node ∙ follow-zero g n (g x)) at (circle-after 1 c))

module _ {f g : ℕ → ℕ} {n : ℕ} where
  -- If no circle of g uses a changed edge, a circle of g is walked in f just so.
  old-walk : ((x : ℕ) → OnCircle g n x → g x ≡ f x) → {i : ℕ} → OnCircle g n i → (m : ℕ) → follow g n m i ≡ follow f n m i
  old-walk same {i} c = same-walk f g n i (λ m h. same (follow g n m i) (circle-after m c))

  old-circle : ((x : ℕ) → OnCircle g n x → g x ≡ f x) → {i : ℕ} → OnCircle g n i → OnCircle f n i
  old-circle same {i} c = record {
    node = c.node;
    steps = c.steps;
    some_steps = c.some_steps;
    back = sym (old-walk same c c.steps) ∙ c.back;
  }

  -- A changed edge that leaves, or leads to a place whose edge leaves, is on no circle: a circle of g is one of f.
  pub settling : ((k : ℕ) → k < n → (g k ≡ f k) ⊎ (n ≤ g k) ⊎ (n ≤ g (g k))) → NoCircle f n → NoCircle g n
  settling change none = record { never = λ i c. none.never i (old-circle unchanged c) }
    where
      unchanged : (x : ℕ) → OnCircle g n x → g x ≡ f x
      unchanged x c = elim (change x c.node) [
        | inl e ↦ e
        | inr (inl o) ↦ absurd (omega (arith, circle-in c))
        | inr (inr o) ↦ absurd (omega (arith, next-in c))
      ]

  -- Edges that only leave make no circle, and a circle of f that loses an edge so is gone.
  pub cutting : ((k : ℕ) → k < n → (g k ≡ f k) ⊎ (n ≤ g k)) → ((i : ℕ) → OnCircle f n i → (m : ℕ) × (n ≤ g (follow f n m i))) → NoCircle g n
  cutting change cut = record { never = gone }
    where
      unchanged : (x : ℕ) → OnCircle g n x → g x ≡ f x
      unchanged x c = elim (change x c.node) [ inl e ↦ e | inr o ↦ absurd (omega (arith, circle-in c)) ]

      gone : (i : ℕ) → OnCircle g n i → ⊥
      gone i c =
          let t = cut i (old-circle unchanged c) in
          let o : n ≤ g (follow g n t.0 i) = rw (old-walk unchanged c t.0) t.1 in
          omega (arith, circle-in (circle-after t.0 c))
