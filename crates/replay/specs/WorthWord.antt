-- THE NUMBER THAT C GETS FOR A CURVE: what it says, and that nothing of it is lost.
use Rattle.std.specs.Prelude.{◌≡◌, refl, ◌↔◌, cond, List, ℕ, ◌/◌, ◌%◌, ◌<◌, ◌≤◌, eqb, ℤ, nat_abs, Option, None, Some}
use Rattle.std.proofs.Common.{arith, ne_eqb}
use Rattle.laws.specs.Signed.{up, dn, abs_is}
use Rattle.curve.specs.Worth.{worth_at, amount}
use Rattle.curve.specs.Layout.{signed_of, curve_at}
use Rattle.book.specs.Read.{CurveWorth}
use Rattle.book.specs.CurveWorth.{curve_worth}
use Rattle.accepted.specs.Layout.{Bytes}
use Rattle.accepted.specs.CurveBytes.{AloneKept}
use Rattle.ilhuepatl.specs.Answer.{bits}
use Rattle.ilhuepatl.specs.Calls.{worth_bits, word_of_worth}
use Rattle.replay.specs.ReadFields.{bits_small, signed-read}

-- what C reads in it: none at 2 ^ 31, the number farthest from all worths, and else a worth in two's complement
abbrev pub read_worth : ℕ → Option ℤ
read_worth n = cond (eqb n 2147483648) None (Some (signed_of 4294967295 n))

pub record WorthWord (s : List ℕ) (t : ℕ) : Type 0 where
  -- the upper half is above 0 exactly for bytes that are no curve, and then it is the refusal's number, and the lower half its place
  pub exactly : (0 < word_of_worth (curve_worth s t) / 4294967296) ↔ (AloneKept s → ⊥)
  pub refusal : (AloneKept s → ⊥) → (word_of_worth (curve_worth s t) / 4294967296 ≡ (curve_worth s t).number) × (word_of_worth (curve_worth s t) % 4294967296 ≡ (curve_worth s t).place)
  -- otherwise it is the curve's worth, or none
  pub worth : AloneKept s → read_worth (word_of_worth (curve_worth s t)) ≡ worth_at (curve_at s 0) t

-- the 32 bits of a worth are not those
bits-free : (z : ℤ) → up z ≤ 1000000 → dn z ≤ 1000000 → bits z ≡ 2147483648 → ⊥
unfolding bits
bits-free z h l e = omega arith

-- so a worth is read back as it was
pub worth-read : (w : Option ℤ) → nat_abs (amount w) ≤ 1000000 → read_worth (worth_bits w) ≡ w
worth-read None h = refl
worth-read (Some z) h =
    let size = abs_is z in
    let other = ne_eqb (bits z) 2147483648 (bits-free z (omega (arith, size, h)) (omega (arith, size, h))) in
    let same = signed-read z (omega (arith, size, h)) (omega (arith, size, h)) in
    λ d. cond (other d) None (Some (same d))

-- and has no upper half
pub worth-below : (w : Option ℤ) → worth_bits w < 4294967296
worth-below None = omega arith
worth-below (Some z) = omega (arith, bits_small z)

module _ (s : List ℕ) (t : ℕ) (b : Bytes s) where
  abbrev pub w : CurveWorth
  w = curve_worth s t
