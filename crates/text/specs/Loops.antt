-- The loops that write a row: what is still to be written at element i is what element i is written as, and then the rest.
use Rattle.std.specs.Prelude.{◌≡◌, List, [], ◌∷◌, ◌++◌, ℕ, suc, ◌+◌, ◌<◌, ◌≤◌, length, take, drop, get_or}
use Rattle.std.proofs.Common.{ap, ◌∙◌, add-one, arith, length-take, drop_of_length-le, drop-cons, get_or-take, length-take-le}
use Rattle.std.proofs.Math.Nat.{min-le_left}
use Rattle.gus.specs.declared.Part.{Part}
use Rattle.planner.specs.LaidOut.{empty_part}
use Rattle.text.specs.Decimal.{ascii, labelled}
use Rattle.text.specs.Lines.{victim_words, part_line, part_lines}
use Rattle.text.specs.Wrote.{Wrote, Writing, writing-ended}

module _ {A : Type 0} (xs : List A) (d : A) (count i : ℕ) (h : i < count) (long : count ≤ length xs) where
  pub left-next : drop i (take count xs) ≡ get_or xs i d ∷ drop (i + 1) (take count xs)
  left-next =
      let size = length-take-le count xs long in
      rw add-one (drop-cons (take count xs) i d (omega arith) ∙ ap (λ (x : A). x ∷ drop (suc i) (take count xs)) (get_or-take count xs i d h))

left-none : {A : Type 0} (xs : List A) (count i : ℕ) → count ≤ i → drop i (take count xs) ≡ []
left-none xs count i h = drop_of_length-le (take count xs) {i = i} (omega (arith, length-take count xs, min-le_left count (length xs)))

module _ {out whole a : List ℕ} {place n : ℕ} (xs : List ℕ) (count i : ℕ) where
  pub words-next : i < count → count ≤ length xs → Writing out place whole (victim_words (drop i (take count xs))) a n → Writing out place whole (labelled (ascii " ") (get_or xs i 0) ++ victim_words (drop (i + 1) (take count xs))) a n
  unfolding victim_words
  words-next h l w = rw (left-next xs 0 count i h l) at w

  pub words-ended : count ≤ i → Writing out place whole (victim_words (drop i (take count xs))) a n → Wrote out place whole a n
  unfolding victim_words
  words-ended h w = writing-ended (rw (left-none xs count i h) at w)

module _ {out whole a : List ℕ} {place n : ℕ} (xs : List Part) (count i start : ℕ) where
  pub parts_next : i < count → count ≤ length xs → Writing out place whole (part_lines start (drop i (take count xs))) a n
      → Writing out place whole (part_line start (get_or xs i empty_part) ++ part_lines (start + (get_or xs i empty_part).time) (drop (i + 1) (take count xs))) a n
  unfolding part_lines
  parts_next h l w = rw (left-next xs empty_part count i h l) at w

  pub parts-ended : count ≤ i → Writing out place whole (part_lines start (drop i (take count xs))) a n → Wrote out place whole a n
  unfolding part_lines
  parts-ended h w = writing-ended (rw (left-none xs count i h) at w)
