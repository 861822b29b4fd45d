-- The text of a signed number by its sign.
use Rattle.std.specs.Prelude.{◌≡◌, refl, ◌++◌, ◌<◌, ◌≤◌, ℤ, pos, negsuc, nat_abs}
use Rattle.std.proofs.Common.{arith}
use Rattle.laws.specs.Signed.{dn}
use Rattle.text.specs.Decimal.{ascii, decimal, signed}

pub below-zero : (z : ℤ) → 0 < dn z → signed z ≡ ascii "-" ++ decimal (nat_abs z)
unfolding signed
below-zero (pos n) h = absurd (omega arith)
below-zero (negsuc n) h = refl

pub from_zero : (z : ℤ) → dn z ≤ 0 → signed z ≡ decimal (nat_abs z)
unfolding signed
from_zero (pos n) h = refl
from_zero (negsuc n) h = absurd (omega arith)
