-- What a call writes at the start of something lent leaves all that comes later as it was.
use Rattle.std.specs.Prelude.{◌≡◌, List, ℕ, ◌+◌, ◌-◌, ◌≤◌, drop}
use Rattle.std.proofs.Common.{sym, ◌∙◌, length-take-le}
use Rattle.std.proofs.Math.Path.{ap}
use native.Mathlib.Omega.{arith}
use Rattle.std.proofs.Math.ListN.{length, get_or}
use Rattle.std.proofs.Math.Seq.{length_front, get_or-append-add, get_or-drop}
use Rattle.laws.specs.Stores.{over}

module _ {A : Type 0} (row lent : List A) where
  pub over-later : (k : ℕ) (d : A) → length row ≤ k → get_or (over row lent) k d ≡ get_or lent k d
  unfolding over
  over-later k d h =
      let e : k ≡ length row + (k - length row) = omega arith in
      ap (λ (n : ℕ). get_or (over row lent) n d) e
      ∙ get_or-append-add row (drop (length row) lent) (k - length row) d
      ∙ get_or-drop (length row) lent (k - length row) d
      ∙ ap (λ (n : ℕ). get_or lent n d) (sym e)

  pub over-size : length row ≤ length lent → length (over row lent) ≡ length lent
  unfolding over
  over-size h = length_front lent row (length row) (sym (length-take-le (length row) lent h))
