-- Wait circles by computation: circle_of tells whether a job is on a circle, and gives the lowest member of it.
use Prim.Native.Nat.{ℕ, zero, suc, ◌-◌, ◌<◌, ◌≤◌, min}
use Rattle.std.proofs.Math.Nat.{not-suc-le-zero}
use Rattle.std.proofs.Math.Decide.{ℕ_discrete}
use Rattle.std.proofs.Common.{arith, sym, ap, ◌∙◌}
use Rattle.std.specs.Prelude.{◌≡◌, refl, ◌≢◌, ◌⊎◌}
use Rattle.std.proofs.Math.Logic.{inl, inr}
use borrow.Author.Tests.{lt-leb, le-leb, eq-eqb, ne_eqb}
use Rattle.laws.specs.Search.{lt-or-le}
use Rattle.laws.specs.Walk.{follow, follow-zero, follow-in, follow-out, follow-part}
use Rattle.laws.specs.Circle.{OnCircle, Reaches, reaches-self, reaches-trans, reaches-back, circle-of-reached}
use Rattle.laws.proofs.Circle.{circle-short}
use Rattle.gus.specs.Waits.{nobody}
use Rattle.gus.specs.Victims.{circle_from, circle_of}

module _ (f : ℕ → ℕ) where
  -- the three ways of a turn
  from_out : (m home j low : ℕ) → 32 ≤ j → circle_from f (suc m) home j low ≡ nobody
  unfolding circle_from
  from_out m home j low l = rw (le-leb 32 j l, circle_from)

  from-home : (m home j low : ℕ) → j < 32 → j ≡ home → circle_from f (suc m) home j low ≡ low
  unfolding circle_from
  from-home m home j low l e = rw (lt-leb 32 j l, eq-eqb j home e, circle_from)

  from_on : (m home j low : ℕ) → j < 32 → j ≢ home → circle_from f (suc m) home j low ≡ circle_from f m home (f j) (min low j)
  unfolding circle_from
  from_on m home j low l ne = rw (lt-leb 32 j l, ne_eqb j home ne, circle_from)

  -- home is met among the first m places of the walk from j, and w is the lowest of `low` and the places before
  record Met (m home j low w : ℕ) : Type 0 where
    steps : ℕ
    few : steps < m
    there : follow f 32 steps j ≡ home
    node : home < 32
    most : w ≤ low
    below : (a : ℕ) → a < steps → w ≤ follow f 32 a j
    reached : (i : ℕ) → Reaches f 32 i j → Reaches f 32 i low → Reaches f 32 i w

  -- or it is not met
  record Missed (m home j w : ℕ) : Type 0 where
    is : w ≡ nobody
    never : (k : ℕ) → k < m → home < 32 → follow f 32 k j ≡ home → ⊥

  one_on : (j : ℕ) → j < 32 → Reaches f 32 j (f j)
  one_on j l = record { after = 1; there = follow-in f 32 0 j l ∙ follow-zero f 32 (f j) }

  lower : (i j low : ℕ) → Reaches f 32 i j → Reaches f 32 i low → Reaches f 32 i (min low j)
  lower i j low p q = elim (lt-or-le low j) [
    | inl h ↦ let e : min low j ≡ low = omega arith in rw e q
    | inr h ↦ let e : min low j ≡ j = omega arith in rw e p
  ]

  met-on : (m home j low : ℕ) → j < 32 → j ≢ home → Met m home (f j) (min low j) (circle_from f m home (f j) (min low j)) → Met (suc m) home j low (circle_from f (suc m) home j low)
  met-on m home j low l ne x = rw (from_on m home j low l ne) (record {
    steps = suc x.steps;
    few = omega (arith, x.few);
    there = follow-in f 32 x.steps j l ∙ x.there;
    node = x.node;
    most = omega (arith, x.most);
    below = below;
    reached = λ i p q. x.reached i (reaches-trans p (one_on j l)) (lower i j low p q);
  })
    where
      below : (a : ℕ) → a < suc x.steps → circle_from f m home (f j) (min low j) ≤ follow f 32 a j
      below zero h = omega (arith, x.most, follow-zero f 32 j)
      below (suc a) h = rw (follow-in f 32 a j l) (x.below a (omega arith))

  missed-on : (m home j low : ℕ) → j < 32 → j ≢ home → Missed m home (f j) (circle_from f m home (f j) (min low j)) → Missed (suc m) home j (circle_from f (suc m) home j low)
  missed-on m home j low l ne x = record { is = from_on m home j low l ne ∙ x.is; never = never }
    where
      never : (k : ℕ) → k < suc m → home < 32 → follow f 32 k j ≡ home → ⊥
      never zero h n e = ne (sym (follow-zero f 32 j) ∙ e)
      never (suc k) h n e = x.never k (omega arith) n (sym (follow-in f 32 k j l) ∙ e)

  scanned : (m home j low : ℕ) → Met m home j low (circle_from f m home j low) ⊎ Missed m home j (circle_from f m home j low)
  unfolding circle_from
  scanned zero home j low = inr (record { is = refl; never = λ k h. absurd (not-suc-le-zero h) })
  scanned (suc m) home j low = elim (lt-or-le j 32) [
    | inl l ↦ elim (ℕ_discrete j home) [
      | yes e ↦ inl (record {
        steps = 0;
        few = omega arith;
        there = follow-zero f 32 j ∙ e;
        node = omega arith;
        most = omega (arith, from-home m home j low l e);
        below = λ a h. absurd (not-suc-le-zero h);
        reached = λ i p q. rw (from-home m home j low l e) q;
      })
      | no ne ↦ elim (scanned m home (f j) (min low j)) [ inl x ↦ inl (met-on m home j low l ne x) | inr x ↦ inr (missed-on m home j low l ne x) ]
    ]
    | inr l ↦ inr (record { is = from_out m home j low l; never = λ k h n e. absurd (omega (arith, follow-out f 32 k j l)) })
  ]

  -- ON A CIRCLE exactly where circle_of is a job
  pub circle-met : (i : ℕ) → circle_of f i < 32 → OnCircle f 32 i
  unfolding circle_of
  circle-met i h = elim (scanned 32 i (f i) i) [
    | inl x ↦ record { node = x.node; steps = suc x.steps; some_steps = omega arith; back = follow-in f 32 x.steps i x.node ∙ x.there }
    | inr x ↦ absurd (omega (arith, x.is))
  ]

  met-circle : (i : ℕ) → OnCircle f 32 i → Met 32 i (f i) i (circle_of f i)
  unfolding circle_of
  met-circle i c = elim (scanned 32 i (f i) i) [ inl x ↦ x | inr x ↦ absurd (let s = circle-short c in none x s.0 s.1 s.2 s.3) ]
    where
      none : Missed 32 i (f i) (circle_from f 32 i (f i) i) → (k : ℕ) → 1 ≤ k → k ≤ 32 → follow f 32 k i ≡ i → ⊥
      none x zero h l e = not-suc-le-zero h
      none x (suc k) h l e = x.never k l c.node (sym (follow-in f 32 k i c.node) ∙ e)

module _ {f : ℕ → ℕ} where
  -- THE LOWEST MEMBER: it is on the walk of i,
  pub lowest-reached : {i : ℕ} → OnCircle f 32 i → Reaches f 32 i (circle_of f i)
  lowest-reached {i} c = (met-circle f i c).reached i (one_on f i c.node) (reaches-self i)

  pub lowest-on : {i : ℕ} → OnCircle f 32 i → OnCircle f 32 (circle_of f i)
  lowest-on c = circle-of-reached c (lowest-reached c)

  pub circle-below : {i : ℕ} → OnCircle f 32 i → circle_of f i < 32
  circle-below c = (lowest-on c).node

  -- no member is below it,
  pub lowest-le : {i j : ℕ} → OnCircle f 32 i → Reaches f 32 i j → circle_of f i ≤ j
  lowest-le {i} {j} c r = go r.after r.after (omega arith) r.there
    where
      x : Met f 32 i (f i) i (circle_of f i)
      x = met-circle f i c

      within : (m : ℕ) → m ≤ x.steps → follow f 32 m i ≡ j → circle_of f i ≤ j
      within zero h e = omega (arith, x.most, follow-zero f 32 i)
      within (suc m) h e = omega (arith, x.below m h, follow-in f 32 m i c.node)

      go : (fuel m : ℕ) → m ≤ fuel → follow f 32 m i ≡ j → circle_of f i ≤ j
      go zero m h e = within m (omega arith) e
      go (suc fuel) m h e = elim (lt-or-le x.steps m) [
        | inl l ↦
            let p : ℕ = suc x.steps in
            let home : follow f 32 p i ≡ i = follow-in f 32 x.steps i c.node ∙ x.there in
            go fuel (m - p) (omega arith) (ap (follow f 32 (m - p)) (sym home) ∙ follow-part f 32 p m i l ∙ e)
        | inr l ↦ within m l e
      ]

  -- two jobs whose circles have one lowest member are on one circle
  pub same-circle : {i j : ℕ} → OnCircle f 32 i → circle_of f i ≡ circle_of f j → Reaches f 32 i j
  same-circle {i} {j} c e =
      let low = lowest-on c in
      let d : OnCircle f 32 j = circle-met f j (omega (arith, low.node)) in
      reaches-trans (lowest-reached c) (rw e (reaches-back d (lowest-reached d)))
