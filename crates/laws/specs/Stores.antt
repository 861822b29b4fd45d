-- Runs of stores: `sets l k xs` is l with xs stored from place k on, and every other place as it was. A run from the start on is `over xs l`.
use Rattle.std.specs.Prelude.{◌≡◌, List, [], ◌∷◌, ◌++◌, ℕ, suc, ◌+◌, ◌<◌, ◌≤◌, length, take, drop, get_or, set}
use Rattle.std.proofs.Common.{sym, ap, ◌∙◌, add-zero, zero-add, add-one, arith, take-suc}
use Rattle.std.proofs.lemmas.List.Edits.{sets, sets-eq}
use Rattle.std.proofs.Math.Seq.{length-sets}

-- a row at the start of what was lent; "Later output bytes keep their values", and "records after the last part keep theirs"
unfoldable pub over : {A : Type 0} → List A → List A → List A
over row out = row ++ drop (length row) out

-- what is stored next after xs is stored with them
pub then-sets : {A : Type 0} (l : List A) (k m : ℕ) (xs ys : List A) → m ≡ k + length xs → sets (sets l k xs) m ys ≡ sets l k (xs ++ ys)
then-sets l k m [] ys e = ap (λ (j : ℕ). sets l j ys) (e ∙ add-zero k)
then-sets l k m (x ∷ xs) ys e = then-sets (set l k x) (suc k) m xs ys (omega arith)

-- a run from the start on is the definition's `over`
pub over-sets : {A : Type 0} (xs l : List A) → length xs ≤ length l → sets l 0 xs ≡ over xs l
unfolding over
over-sets xs l h = sets-eq xs l 0 (omega arith) ∙ ap (λ (k : ℕ). xs ++ drop k l) (zero-add (length xs))

-- a loop that stores what a row's first `count` elements are written as into l from place k on, at element i
pub record Storing {A B : Type 0} (form : List A → List B) (l : List B) (k : ℕ) (xs : List A) (count i : ℕ) (out : List B) : Type 0 where
  pub within : i ≤ count
  pub stored : out ≡ sets l k (form (take i xs))

module _ {A B : Type 0} {form : List A → List B} {l : List B} {k : ℕ} {xs : List A} {count i : ℕ} {out : List B} where
  pub storing-length : Storing form l k xs count i out → length out ≡ length l
  storing-length inv = ap length inv.stored ∙ length-sets l k (form (take i xs))

  -- what element i is written as is stored where the first i end
  pub storing-next : {next : List B} (more : List B) (m : ℕ) (d : A)
      → Storing form l k xs count i out
      → i < count
      → count ≤ length xs
      → form (take i xs ++ (get_or xs i d ∷ [])) ≡ form (take i xs) ++ more
      → m ≡ k + length (form (take i xs))
      → next ≡ sets out m more
      → Storing form l k xs count (i + 1) next
  storing-next more m d inv left long grows e stored =
      let t : take (i + 1) xs ≡ take i xs ++ (get_or xs i d ∷ []) = rw (add-one i) (take-suc xs i d (omega arith)) in
      record {
        within = omega arith;
        stored =
            stored
            ∙ ap (λ (o : List B). sets o m more) inv.stored
            ∙ then-sets l k m (form (take i xs)) more e
            ∙ ap (sets l k) (sym grows ∙ ap form (sym t));
      }

  pub storing-ended : Storing form l k xs count i out → count ≤ i → out ≡ sets l k (form (take count xs))
  storing-ended inv h = let e : i ≡ count = omega (arith, inv.within) in inv.stored ∙ ap (λ (n : ℕ). sets l k (form (take n xs))) e
