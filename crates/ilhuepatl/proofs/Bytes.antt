-- What std's conversions answer, in the words of the answer: a flag, a signed number's bits, and a number's bytes.
use Rattle.std.proofs.Common.{◌≡◌, refl, ℕ, Bool, true, false, cond, ℤ, pos, negsuc, arith, ap, ◌∙◌}
use Rattle.std.specs.Int.{w16, w32, to_be_bytes}
use mir.Val.{SFits, of_z, to_z, bool_byte}
use mir.Facts.{to_z-of_z}
use Rattle.ilhuepatl.specs.Answer.{two, four, bits}

pub flag_byte : (b : Bool) → bool_byte b ≡ cond b 1 0
flag_byte true = refl
flag_byte false = refl

pub bits_are : (z : ℤ) → SFits w32 z → of_z w32 z ≡ bits z
unfolding bits
bits_are (pos n) f = omega (arith, f.sfits)
bits_are (negsuc n) f = omega (arith, f.sfits)

pub two_bytes : (n : ℕ) → to_be_bytes w16 n ≡ two n
unfolding two
two_bytes n = refl

pub four_bytes : (n : ℕ) → to_be_bytes w32 n ≡ four n
unfolding four
four_bytes n = refl

-- of a signed number, as the code has it
pub signed_bytes : (z : ℤ) → SFits w32 z → to_be_bytes w32 (of_z w32 (to_z w32 (of_z w32 z))) ≡ four (bits z)
signed_bytes z f = rw (to_z-of_z f) (four_bytes (of_z w32 z) ∙ ap four (bits_are z f))
