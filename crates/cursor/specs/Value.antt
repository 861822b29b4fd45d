-- A value in a string of bytes: where it is there, where the string ends before it, and how far it goes.
use Rattle.std.specs.Prelude.{ℕ, ◌+◌, ◌-◌, ◌^◌, ◌<◌, ◌≤◌, ◌≡◌, List, length, take, drop}
use Rattle.std.proofs.Math.Nat.{one-le-pow}
use Rattle.std.proofs.Math.Decide.{ℕ_discrete}
use native.Mathlib.Omega.{arith}
use Rattle.std.proofs.Common.{◌∙◌, length-take, length-drop, get_or-take, get_or-drop}
use Rattle.std.proofs.Math.ListN.{get_or}
use borrow.Author.Tests.{le-leb, lt-leb, ne_eqb}
use Rattle.cursor.specs.Field.{value_at, value_in}

module _ (s : List ℕ) (place n : ℕ) where
  pub value_there : place + n ≤ length s → value_in s place n ≡ value_at s place n
  unfolding value_in
  value_there h = rw (le-leb (place + n) (length s) h)

  pub value-cut : length s < place + n → value_in s place n ≡ 0
  unfolding value_in
  value-cut h = rw (lt-leb (place + n) (length s) h)

-- n bytes have room for a number
pub some-room : (n : ℕ) → 0 < 256 ^ n
some-room n = one-le-pow n 256 (omega arith)

-- a part of the string reads as the string does at the part's place
module _ (s : List ℕ) (place : ℕ) where
  byte-part : (n k : ℕ) → k < n → get_or (take n (drop place s)) k 0 ≡ get_or s (place + k) 0
  byte-part n k h = get_or-take n (drop place s) k 0 h ∙ get_or-drop place s k 0

  value-part : (n : ℕ) → value_at (take n (drop place s)) 0 n ≡ value_at s place n
  unfolding value_at
  value-part n = elim (ℕ_discrete n 1) [
    | yes e ↦ rw e (first 1 (omega arith))
    | no one ↦ elim (ℕ_discrete n 2) [
      | yes e ↦ rw e (rw (first 2 (omega arith), byte-part 2 1 (omega arith)))
      | no two ↦ elim (ℕ_discrete n 4) [
        | yes e ↦ rw e (rw (first 4 (omega arith), byte-part 4 1 (omega arith), byte-part 4 2 (omega arith), byte-part 4 3 (omega arith)))
        | no four ↦ rw (ne_eqb n 1 one, ne_eqb n 2 two, ne_eqb n 4 four)
      ]
    ]
  ]
    where
      first : (m : ℕ) → 0 < m → get_or (take m (drop place s)) 0 0 ≡ get_or s place 0
      first m h = let e : place + 0 ≡ place = omega arith in rw e at (byte-part m 0 h)

  pub value-of-part : (n : ℕ) → place + n ≤ length s → value_in (take (place + n - place) (drop place s)) 0 n ≡ value_at s place n
  value-of-part n h =
      let e : place + n - place ≡ n = omega arith in
      rw e (value_there (take n (drop place s)) 0 n (omega (arith, length-take n (drop place s), length-drop place s)) ∙ value-part n)
