-- One of a list of numbers.
use Rattle.std.specs.Prelude.{ℕ, zero, suc, ◌<◌, ◌≡◌, refl, ◌⊎◌, List, [], ◌∷◌, ◌++◌, length, get_or}
use Rattle.std.proofs.Common.{not-suc-le-zero, le_of_suc-le-suc, inl, inr}
use Rattle.std.proofs.Math.Decide.{ℕ_discrete}

abbrev pub Among : ℕ → List ℕ → Type 0
Among i [] = ⊥
Among i (k ∷ ks) = (i ≡ k) ⊎ Among i ks

pub among-front : (i : ℕ) (xs ys : List ℕ) → Among i xs → Among i (xs ++ ys)
among-front i [] ys h = absurd h
among-front i (x ∷ xs) ys (inl e) = inl e
among-front i (x ∷ xs) ys (inr h) = inr (among-front i xs ys h)

pub among-back : (i : ℕ) (xs ys : List ℕ) → Among i ys → Among i (xs ++ ys)
among-back i [] ys h = h
among-back i (x ∷ xs) ys h = inr (among-back i xs ys h)

pub among-either : (i : ℕ) (xs ys : List ℕ) → Among i (xs ++ ys) → Among i xs ⊎ Among i ys
among-either i [] ys h = inr h
among-either i (x ∷ xs) ys (inl e) = inl (inl e)
among-either i (x ∷ xs) ys (inr h) = elim (among-either i xs ys h) [ inl y ↦ inl (inr y) | inr y ↦ inr y ]

pub among-or-not : (i : ℕ) (xs : List ℕ) → Among i xs ⊎ (Among i xs → ⊥)
among-or-not i [] = inr (λ h. h)
among-or-not i (x ∷ xs) = elim (ℕ_discrete i x) [
  | yes e ↦ inl (inl e)
  | no ne ↦ elim (among-or-not i xs) [ inl h ↦ inl (inr h) | inr n ↦ inr (neither ne n) ]
]
  where
    neither : (i ≡ x → ⊥) → (Among i xs → ⊥) → (i ≡ x) ⊎ Among i xs → ⊥
    neither p q (inl e) = p e
    neither p q (inr h) = q h

pub among-at : (xs : List ℕ) (k : ℕ) → k < length xs → Among (get_or xs k 0) xs
among-at [] k l = not-suc-le-zero l
among-at (x ∷ xs) zero l = inl refl
among-at (x ∷ xs) (suc k) l = inr (among-at xs k (le_of_suc-le-suc l))
