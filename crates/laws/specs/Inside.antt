-- An element of a list does not depend on what is taken to stand past the list's end.
use Rattle.std.specs.Prelude.{◌≡◌, refl, List, [], ◌∷◌, ℕ, zero, suc, ◌<◌, length, get_or}
use Rattle.std.proofs.Common.{not-suc-le-zero, le_of_suc-le-suc}

pub inside : {A : Type 0} (l : List A) (i : ℕ) (a b : A) → i < length l → get_or l i a ≡ get_or l i b
inside [] i a b h = absurd (not-suc-le-zero h)
inside (x ∷ l) zero a b h = refl
inside (x ∷ l) (suc i) a b h = inside l i a b (le_of_suc-le-suc h)
