-- An array that `from_fn` fills by a closure that acts as a function: each place holds that function of its number.
use Prim.Native.Nat.{ℕ, zero, suc, ◌+◌, ◌<◌, ◌≤◌}
use native.Mathlib.Omega.{arith}
use mathlib.Core.Path.{◌≡◌, refl, ap, sym, ◌∙◌}
use mathlib.Core.List.{List, [], ◌∷◌, ◌++◌}
use Rattle.std.specs.Prelude.{◌⊎◌}
use Rattle.std.proofs.Common.{inl, inr}
use Rattle.std.proofs.Math.Nat.{eq-or-lt_of_le}
use lib.ListN.{get_or, length, take, drop}
use denote.Param.Members.{Mut, Called}
use Rattle.std.specs.Array.{IsFromFnResult, IsFromFnResultFrom}
use Rattle.std.proofs.lemmas.List.{ext_get_or}
use Rattle.laws.specs.Each.{map_ix, done, at-map_ix, length-map_ix}

module _ {F B : Type 0} (g : Mut F (ℕ × Unit {0}) B) (h : ℕ → B) where
  -- below n each call of f gives what h gives, and leaves f as it was
  abbrev pub ActsBelow : ℕ → F → Type 0
  ActsBelow n f = (x : ℕ) (r : B) (q : F) → x < n → Called g f (x, tt) r q → (q ≡ f) × (r ≡ h x)

  module _ (ys : List B) (f : F) where
    filled-from : (m : ℕ) → ActsBelow m f → (n i : ℕ) → i + n ≤ m → IsFromFnResultFrom g f ys i n → (k : ℕ) (d : B) → i ≤ k → k < i + n → get_or ys k d ≡ h k
    filled-from m acts zero i w r k d a b = absurd (omega arith)
    filled-from m acts (suc n) i w (q, y, at, called, rest) k d a b = by (eq-or-lt_of_le a) (filled-from m acts n (i + 1) (omega arith) (rw same at rest) k d)
      where
        same : q ≡ f
        same = (acts i y q (omega arith) called).0

        by : ◌⊎◌ (i ≡ k) (i < k) → (i + 1 ≤ k → k < i + 1 + n → get_or ys k d ≡ h k) → get_or ys k d ≡ h k
        by (inl e) later = rw (sym e) (at.1 d ∙ (acts i y q (omega arith) called).1)
        by (inr e) later = later (omega arith) (omega arith)

    pub filled : {n : ℕ} (l : List B) (turn : ℕ → B → B) (d : B) → ActsBelow n f → IsFromFnResult g f ys n → length l ≡ n → ((k : ℕ) → k < n → h k ≡ turn k (get_or l k d)) → ys ≡ map_ix turn l
    filled {n} l turn d acts r long same =
        ext_get_or d ys (map_ix turn l) (r.long ∙ sym (length-map_ix turn l ∙ long))
        (λ k m. filled-from n acts n 0 (omega arith) r.each k d (omega arith) (omega (arith, r.long)) ∙ same k (omega (arith, r.long)) ∙ sym (at-map_ix turn l k d (omega (arith, r.long, long))))

-- A loop over the first n places alone leaves what n turns over all of them leave.
pub front-turns : {A : Type 0} (f : ℕ → A → A) (n : ℕ) (l : List A) → map_ix f (take n l) ++ drop n l ≡ done f n l
front-turns f zero l = refl
front-turns f (suc n) [] = refl
front-turns {A} f (suc n) (x ∷ l) = ap {B = List A} (λ t. f 0 x ∷ t) (front-turns (λ k. f (suc k)) n l)
