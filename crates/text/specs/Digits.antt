-- The digits of a number one by one: how they are written, and how many there are.
use Rattle.std.specs.Prelude.{◌≡◌, refl, Bool, true, false, List, [], ◌∷◌, ◌++◌, ℕ, zero, suc, ◌+◌, ◌/◌, ◌%◌, ◌^◌, ◌<◌, ◌≤◌, ltb, length, set}
use Rattle.std.proofs.Common.{ap, ◌∙◌, inl, inr, arith, length-append, lt-ltb, le-ltb, ltb-false}
use Rattle.laws.specs.Search.{lt-or-le}
use Rattle.text.specs.Decimal.{digits, decimal}
use Rattle.text.specs.Wrote.{Wrote, wrote_then}

-- a tenth of a number that has two digits is less
tenth-less : (n m : ℕ) → 10 ≤ n → n < suc m → n / 10 < m
tenth-less n m l h = omega arith

-- one digit, or the last one after those of a tenth
abbrev spelled : ℕ → List ℕ → Bool → List ℕ
spelled n front one = elim one as (λ _. List ℕ) [ true ↦ (48 + n) ∷ [] | false ↦ front ++ ((48 + n % 10) ∷ []) ]

-- room for more digits than there are changes nothing
more_room : (f g n : ℕ) → n < f → n < g → digits f n ≡ digits g n
unfolding digits
more_room zero g n h k = absurd (omega arith)
more_room (suc f) zero n h k = absurd (omega arith)
more_room (suc f) (suc g) n h k = by (ltb n 10) refl (λ a b. more_room f g (n / 10) a b)
  where
    by : (x : Bool) → ltb n 10 ≡ x → (n / 10 < f → n / 10 < g → digits f (n / 10) ≡ digits g (n / 10)) → spelled n (digits f (n / 10)) x ≡ spelled n (digits g (n / 10)) x
    by true q next = refl
    by false q next =
        let l = ltb-false n 10 q in
        ap (λ (ds : List ℕ). ds ++ ((48 + n % 10) ∷ [])) (next (tenth-less n f l h) (tenth-less n g l k))

decimal-one : (n : ℕ) → n < 10 → decimal n ≡ (48 + n) ∷ []
unfolding decimal digits
decimal-one n h = ap (spelled n (digits n (n / 10))) (lt-ltb n 10 h)

decimal-more : (n : ℕ) → 10 ≤ n → decimal n ≡ decimal (n / 10) ++ ((48 + n % 10) ∷ [])
unfolding decimal digits
decimal-more n h =
    ap (spelled n (digits n (n / 10))) (le-ltb n 10 h)
    ∙ ap (λ (ds : List ℕ). ds ++ ((48 + n % 10) ∷ [])) (more_room n (suc (n / 10)) (n / 10) (tenth-less n n h (omega arith)) (omega arith))

pub length-one : (n : ℕ) → n < 10 → length (decimal n) ≡ 1
length-one n h = ap length (decimal-one n h)

pub length_more : (n : ℕ) → 10 ≤ n → length (decimal n) ≡ length (decimal (n / 10)) + 1
length_more n h = ap length (decimal-more n h) ∙ length-append (decimal (n / 10)) ((48 + n % 10) ∷ [])

pub wrote_one : (out : List ℕ) (place n : ℕ) → n < 10 → Wrote out place (decimal n) (set out place (48 + n)) (place + 1)
wrote_one out place n h = rw (decimal-one n h) (record { end = refl; stored = refl })

pub wrote-last : {out : List ℕ} {place : ℕ} (n : ℕ) {a : List ℕ} {m : ℕ} → 10 ≤ n → Wrote out place (decimal (n / 10)) a m → Wrote out place (decimal n) (set a m (48 + n % 10)) (m + 1)
wrote-last n h w = rw (decimal-more n h) (wrote_then w (record { end = refl; stored = refl }))

-- a number below 10^k has at most k digits
pub decimal-short : (k n : ℕ) → n < 10 ^ suc k → length (decimal n) ≤ suc k
decimal-short zero n h = omega (arith, length-one n h)
decimal-short (suc k) n h = elim (lt-or-le n 10) [
  | inl l ↦ omega (arith, length-one n l)
  | inr l ↦ omega (arith, length_more n l, decimal-short k (n / 10) (omega arith))
]
