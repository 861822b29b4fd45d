-- The victims in an array, circle by circle.
use Rattle.std.specs.Prelude.{◌≡◌, Bool, eqb, set, replicate}
use Rattle.std.proofs.Math.Path.{refl, sym, ap}
use Rattle.std.proofs.Common.{◌∙◌}
use Rattle.std.proofs.Math.Bool.{true, false}
use mathlib.Core.List.{List, [], ◌∷◌, ◌++◌, append-nil, append_assoc}
use Prim.Native.Nat.{ℕ, zero, suc, ◌+◌, ◌-◌, ◌<◌, ◌≤◌}
use Rattle.std.proofs.Math.Numerals.{add-one}
use native.Mathlib.Omega.{arith}
use borrow.Author.Tests.{eq-eqb, ne_eqb, leb-true, leb-false}
use Rattle.std.proofs.Math.Dec.{leb}
use Rattle.std.proofs.Math.ListN.{length, length-append}
use Rattle.std.proofs.Math.Seq.{set-append_seam}
use Rattle.laws.specs.Fill.{padded}
use Rattle.gus.specs.declared.Best.{Best}
use Rattle.gus.specs.Waits.{nobody}
use Rattle.gus.specs.View.{View}
use Rattle.gus.specs.Victims.{circle_of, victim_of, victims_to, victims_of, knot_to, knot_of}
use Rattle.planner.specs.declared.Victims.{Victims}
use Rattle.planner.specs.Circling.{circle-none}
use Rattle.planner.specs.Asking.{Beyond}

-- the victims and the knot as the code hands them over; and those of the circles whose lowest member is below n
unfoldable pub listed : View → ℕ → Victims
listed v t = record { list = padded 32 0 (victims_of v t); count = length (victims_of v t); knot = knot_of v t }

unfoldable pub listed_to : View → ℕ → ℕ → Victims
listed_to v t n = record { list = padded 32 0 (victims_to v t n); count = length (victims_to v t n); knot = knot_to v t n }

-- a circle more: its victim, and the knot
abbrev pub knot_after : ℕ → Bool → ℕ → ℕ
knot_after knot some low = elim (leb 32 knot) [ true ↦ elim some [ true ↦ nobody | false ↦ low ] | false ↦ knot ]

abbrev pub noted : Victims → Best → ℕ → Victims
noted v b low = record { list = set v.list v.count b.last; count = v.count + 1; knot = knot_after v.knot b.some low }

padded-more : {A : Type 0} (n : ℕ) (z x : A) (l : List A) → length l < n → set (padded n z l) (length l) x ≡ padded n z (l ++ x ∷ [])
unfolding padded
padded-more n z x l h =
    let k : ℕ = n - length (l ++ x ∷ []) in
    let m : n - length l ≡ suc k = omega (arith, length-append l (x ∷ [])) in
    ap (λ (j : ℕ). set (l ++ replicate j z) (length l) x) m ∙ set-append_seam l z (replicate k z) x ∙ sym (append_assoc l (x ∷ []) (replicate k z))

module _ (v : View) (t : ℕ) where
  -- no more victims than circles
  pub few : (n : ℕ) → length (victims_to v t n) ≤ n
  unfolding victims_to
  few zero = omega arith
  few (suc n) = by (eqb (circle_of v.waits n) n) (few n)
    where
      by : (b : Bool) → length (victims_to v t n) ≤ n → length {A = ℕ} (victims_to v t n ++ elim b [ true ↦ (victim_of v t n).last ∷ [] | false ↦ [] ]) ≤ suc n
      by true h = omega (arith, length-append (victims_to v t n) ((victim_of v t n).last ∷ []))
      by false h = omega (arith, length-append (victims_to v t n) [])

  -- a knot is a job or nobody
  knot-none : (n : ℕ) → n ≤ 32 → 32 ≤ knot_to v t n → knot_to v t n ≡ nobody
  unfolding knot_to
  knot-none zero h q = refl
  knot-none (suc n) h q = by (leb 32 (knot_to v t n)) refl (eqb (circle_of v.waits n) n) (victim_of v t n).some q
    where
      by : (x : Bool) → leb 32 (knot_to v t n) ≡ x → (y z : Bool)
          → 32 ≤ elim x as (λ _. ℕ) [ true ↦ elim y [ true ↦ elim z [ true ↦ nobody | false ↦ n ] | false ↦ nobody ] | false ↦ knot_to v t n ]
          → elim x as (λ _. ℕ) [ true ↦ elim y [ true ↦ elim z [ true ↦ nobody | false ↦ n ] | false ↦ nobody ] | false ↦ knot_to v t n ] ≡ nobody
      by true e true true l = refl
      by true e true false l = absurd (omega arith)
      by true e false z l = refl
      by false e y z l = absurd (omega (arith, leb-false 32 (knot_to v t n) e))

  pub listed-begin : record { list = replicate 32 0; count = 0; knot = nobody } ≡ listed_to v t 0
  unfolding listed_to victims_to knot_to padded
  listed-begin = refl

  module _ (n : ℕ) (h : n < 32) where
    victims-more : circle_of v.waits n ≡ n → victims_to v t (suc n) ≡ victims_to v t n ++ (victim_of v t n).last ∷ []
    unfolding victims_to
    victims-more e = ap (λ (b : Bool). victims_to v t n ++ elim b [ true ↦ (victim_of v t n).last ∷ [] | false ↦ [] ]) (eq-eqb _ _ e)

    victims-same : (circle_of v.waits n ≡ n → ⊥) → victims_to v t (suc n) ≡ victims_to v t n
    unfolding victims_to
    victims-same e = ap (λ (b : Bool). victims_to v t n ++ elim b [ true ↦ (victim_of v t n).last ∷ [] | false ↦ [] ]) (ne_eqb _ _ e) ∙ append-nil (victims_to v t n)

    knot-more : circle_of v.waits n ≡ n → knot_to v t (suc n) ≡ knot_after (knot_to v t n) (victim_of v t n).some n
    unfolding knot_to
    knot-more e = λ k. elim (leb 32 (knot_to v t n)) [
      | true ↦ elim (eq-eqb _ _ e k) [ true ↦ elim (victim_of v t n).some [ true ↦ nobody | false ↦ n ] | false ↦ nobody ]
      | false ↦ knot_to v t n
    ]

    knot-same : (circle_of v.waits n ≡ n → ⊥) → knot_to v t (suc n) ≡ knot_to v t n
    unfolding knot_to
    knot-same e =
        (λ k. elim (leb 32 (knot_to v t n)) [
          | true ↦ elim (ne_eqb _ _ e k) [ true ↦ elim (victim_of v t n).some [ true ↦ nobody | false ↦ n ] | false ↦ nobody ]
          | false ↦ knot_to v t n
        ])
        ∙ by (leb 32 (knot_to v t n)) refl
      where
        by : (x : Bool) → leb 32 (knot_to v t n) ≡ x → elim x [ true ↦ nobody | false ↦ knot_to v t n ] ≡ knot_to v t n
        by true p = sym (knot-none n (omega arith) (leb-true 32 (knot_to v t n) p))
        by false p = refl

    pub listed-room : {s : Victims} → s ≡ listed_to v t n → s.count < 32
    unfolding listed_to
    listed-room d = rw d (omega (arith, few n))

    pub listed_more : {s r : Victims} {b : Best} → s ≡ listed_to v t n → circle_of v.waits n ≡ n → b ≡ victim_of v t n → r ≡ noted s b n → r ≡ listed_to v t (n + 1)
    unfolding listed_to
    listed_more d e q p =
        let l : length (victims_to v t n) < 32 = omega (arith, few n) in
        let m = victims-more e in
        rw add-one
        (p ∙ (λ k. noted (d k) (q k) n) ∙ (λ k. record {
          list = (padded-more 32 0 (victim_of v t n).last (victims_to v t n) l ∙ ap (padded 32 0) (sym m)) k;
          count = (sym (length-append (victims_to v t n) ((victim_of v t n).last ∷ [])) ∙ ap length (sym m)) k;
          knot = sym (knot-more e) k;
        }))

    pub listed_same : (circle_of v.waits n ≡ n → ⊥) → listed_to v t n ≡ listed_to v t (n + 1)
    unfolding listed_to
    listed_same e = rw (add-one, victims-same e, knot-same e)

  -- where only the first n jobs wait, their circles are all
  pub listed-among : {n : ℕ} → Beyond n v → listed_to v t n ≡ listed v t
  unfolding listed victims_of knot_of listed_to
  listed-among {n} out = sym (by (32 - n) 32 (omega (arith, out.few)) (omega arith))
    where
      apart : (i c : ℕ) → i < 32 → c ≡ nobody → c ≡ i → ⊥
      apart i c h e q = omega arith

      by : (k m : ℕ) → m ≡ n + k → m ≤ 32 → listed_to v t m ≡ listed_to v t n
      by zero m e h = let same : m ≡ n = omega arith in ap (listed_to v t) same
      by (suc k) zero e h = absurd (omega arith)
      by (suc k) (suc m) e h =
          let off = circle-none v.waits m (out.waits m (omega arith)) in
          sym (rw add-one at (listed_same m (omega arith) (apart m _ (omega arith) off))) ∙ by k m (omega arith) (omega arith)
