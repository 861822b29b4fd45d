-- Circles of a graph with one edge out of each place: a walk leaves the graph, or comes upon a place again and goes round for ever.
use Rattle.std.specs.Prelude.{ℕ, zero, suc, ◌+◌, ◌-◌, ◌<◌, ◌≤◌, ◌≡◌}
use Rattle.std.proofs.Common.{arith, sym, ap, ◌∙◌}
use Rattle.laws.specs.Search.{Repeat}
use Rattle.laws.specs.Walk.{follow, follow-zero, follow-in, follow-add, follow-swap, follow-part, was-in}

-- some walk from i, not the empty one, comes back to i; a number outside would come back to itself too, so i is a place
pub record OnCircle (f : ℕ → ℕ) (n i : ℕ) : Type 0 where
  pub node : i < n
  pub steps : ℕ
  pub some_steps : 1 ≤ steps
  pub back : follow f n steps i ≡ i

-- a record, and no mere function, so that f and n are read off its type
pub record NoCircle (f : ℕ → ℕ) (n : ℕ) : Type 0 where
  pub never : (i : ℕ) → OnCircle f n i → ⊥

pub record Reaches (f : ℕ → ℕ) (n i j : ℕ) : Type 0 where
  pub after : ℕ
  pub there : follow f n after i ≡ j

pub record Leaves (f : ℕ → ℕ) (n i : ℕ) : Type 0 where
  pub after : ℕ
  pub out : n ≤ follow f n after i

module _ (f : ℕ → ℕ) (n : ℕ) where
  -- from the place that is repeated the walk comes back to it
  pub round : (i : ℕ) (r : Repeat (λ k. follow f n k i) (suc n)) → follow f n (r.second - r.first) (follow f n r.first i) ≡ follow f n r.first i
  round i r = follow-part f n r.first r.second i (omega arith) ∙ sym r.same

module _ {f : ℕ → ℕ} {n : ℕ} where
  pub reaches-self : (i : ℕ) → Reaches f n i i
  reaches-self i = record { after = 0; there = follow-zero f n i }

  pub reaches-trans : {i j k : ℕ} → Reaches f n i j → Reaches f n j k → Reaches f n i k
  reaches-trans {i} {j} {k} p q = record {
    after = p.after + q.after;
    there = follow-add f n p.after q.after i ∙ ap (follow f n q.after) p.there ∙ q.there;
  }

  -- a walk from a circle's place is there again as late as one likes: after one more round for each step asked for
  late-back : {i : ℕ} → OnCircle f n i → (m : ℕ) → (k : ℕ) × (m ≤ k) × (follow f n k i ≡ i)
  late-back {i} c zero = (0, omega arith, follow-zero f n i)
  late-back {i} c (suc m) =
      let t = late-back c m in
      (t.0 + c.steps, omega (arith, c.some_steps, t.1), follow-add f n t.0 c.steps i ∙ ap (follow f n c.steps) t.2 ∙ c.back)

  -- at a late return the walk is inside, so it was inside before
  pub circle-stays : {i : ℕ} → OnCircle f n i → (m : ℕ) → follow f n m i < n
  circle-stays {i} c m = let t = late-back c m in was-in f n m t.0 i t.1 (rw t.2 c.node)

  pub circle-not-left : {i : ℕ} → OnCircle f n i → Leaves f n i → ⊥
  circle-not-left c l = omega (arith, circle-stays c l.after, l.out)

  pub circle-in : {i : ℕ} → OnCircle f n i → f i < n
  circle-in {i} c = rw (follow-in f n 0 i c.node ∙ follow-zero f n (f i)) at (circle-stays c 1)

  -- the same number of steps leads round from every place of a circle
  pub circle-after : (m : ℕ) {i : ℕ} → OnCircle f n i → OnCircle f n (follow f n m i)
  circle-after m {i} c = record {
    node = circle-stays c m;
    steps = c.steps;
    some_steps = c.some_steps;
    back = follow-swap f n c.steps m i ∙ ap (follow f n m) c.back;
  }

  pub circle-of-reached : {i j : ℕ} → OnCircle f n i → Reaches f n i j → OnCircle f n j
  circle-of-reached c r = rw r.there at (circle-after r.after c)

  -- of a return that is late enough, the part after j is the way back
  pub reaches-back : {i j : ℕ} → OnCircle f n i → Reaches f n i j → Reaches f n j i
  reaches-back {i} c r =
      let t = late-back c r.after in
      record {
        after = t.0 - r.after;
        there = ap (follow f n (t.0 - r.after)) (sym r.there) ∙ follow-part f n r.after t.0 i t.1 ∙ t.2;
      }

  pub no-circle-of-ends : ((i : ℕ) → i < n → Leaves f n i) → NoCircle f n
  no-circle-of-ends ends = record { never = λ i c. circle-not-left c (ends i c.node) }
