-- What rests on specs/Circle.antt.
use Rattle.std.specs.Prelude.{ℕ, suc, ◌-◌, ◌<◌, ◌≤◌, ◌≡◌, refl}
use Rattle.std.proofs.Common.{arith, sym, ap, ◌∙◌, inl, inr}
use Rattle.laws.specs.Search.{lt-or-le, Repeat, pigeonhole}
use Rattle.laws.specs.Walk.{follow, follow-swap, was-in}
use Rattle.laws.specs.Circle.{NoCircle, OnCircle, Reaches, circle-stays, reaches-back, round}

module _ (f : ℕ → ℕ) (n : ℕ) where
  -- a walk that is inside after n steps has been at n + 1 places, all below n
  repeats : (i : ℕ) → follow f n n i < n → Repeat (λ k. follow f n k i) (suc n)
  repeats i h = pigeonhole n (λ k. follow f n k i) (λ k l. was-in f n k n i (omega arith) h)

module _ {f : ℕ → ℕ} {n : ℕ} where
  -- a walk still inside after n steps has come round, so without a circle n steps are enough to leave
  pub paths-end : NoCircle f n → (i : ℕ) → n ≤ follow f n n i
  paths-end no-circle i = elim (lt-or-le (follow f n n i) n) [
    | inl h ↦
        let r = repeats f n i h in
        absurd (no-circle.never (follow f n r.first i) (record {
          node = was-in f n r.first n i (omega arith) h;
          steps = r.second - r.first;
          some_steps = omega arith;
          back = round f n i r;
        }))
    | inr h ↦ h
  ]

  -- The place that is repeated need not be i, but i is reached from it; so as many steps as lead round from there lead round from i.
  pub circle-short : {i : ℕ} → OnCircle f n i → (k : ℕ) × (1 ≤ k) × (k ≤ n) × (follow f n k i ≡ i)
  circle-short {i} c =
      let r = repeats f n i (circle-stays c n) in
      let k : ℕ = r.second - r.first in
      let j : ℕ = follow f n r.first i in
      let q : Reaches f n j i = reaches-back c (record { after = r.first; there = refl }) in (
        k,
        omega arith,
        omega arith,
        ap (follow f n k) (sym q.there) ∙ follow-swap f n k q.after j ∙ ap (follow f n q.after) (round f n i r) ∙ q.there,
      )
