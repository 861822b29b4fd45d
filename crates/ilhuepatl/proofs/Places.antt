-- A run stored at a place of what was lent, as the code stores it: copied there, or written by a function that gets what was lent from there on.
use Rattle.std.proofs.Common.{◌≡◌, refl, List, [], ◌++◌, ℕ, ◌+◌, ◌-◌, ◌≤◌, length, take, drop, sym, ap, ◌∙◌, arith, append-nil, append_assoc}
use Rattle.std.proofs.Math.Seq.{take-length}
use Rattle.std.proofs.lemmas.List.{take_rest, drop_all, drop-drop, length-drop}
use Rattle.std.proofs.lemmas.List.Edits.{sets, sets-eq}
use Rattle.std.proofs.lemmas.Slice.{put_mid-paste}
use borrow.Rule.Slice.PartMut.{put_mid, mid_of}
use Rattle.laws.specs.Stores.{over}

module _ {A : Type 0} (l : List A) (k : ℕ) (xs : List A) {ys : List A} where
  pub copied : (a : ℕ) → a + k ≤ length l → length xs ≡ k → ys ≡ xs → put_mid a k l ys ≡ sets l a xs
  copied a h n e = put_mid-paste a k l ys xs (length xs) e n refl ∙ rw (take-length xs) (sym (sets-eq xs l a (omega arith)))

  -- at the start
  pub laid : length xs ≡ k → ys ≡ xs → ys ++ drop k l ≡ over xs l
  unfolding over
  laid n e = λ i. e i ++ drop (sym n i) l

module _ {A : Type 0} (l : List A) (a : ℕ) (xs : List A) {ys : List A} where
  pub written_on : a + length xs ≤ length l → ys ≡ over xs (mid_of a (length l - a) l) → put_mid a (length l - a) l ys ≡ sets l a xs
  unfolding over
  written_on h e =
      let rest : List A = drop (length xs) (drop a l) in
      let k = length l - a in
      let body : ys ≡ xs ++ rest = e ∙ ap (λ (m : List A). xs ++ drop (length xs) m) (take_rest l a) in
      let none : drop k (drop a l) ≡ [] = drop_all k (drop a l) (omega (arith, length-drop a l)) in
      (λ i. take a l ++ (body i ++ none i))
      ∙ ap (λ (m : List A). take a l ++ m) (append-nil (xs ++ rest))
      ∙ sym (append_assoc (take a l) xs rest)
      ∙ ap (λ (m : List A). take a l ++ xs ++ m) (drop-drop (length xs) a l)
      ∙ sym (sets-eq xs l a h)
