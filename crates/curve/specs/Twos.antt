-- What the bits of a signed field stand for fits the width that they have.
use Rattle.std.specs.Prelude.{ℕ, suc, ◌+◌, ◌-◌, ◌<◌, ◌≤◌, ◌^◌, ◌≡◌, ltb, pos, negsuc}
use native.Mathlib.Omega.{arith}
use Rattle.std.proofs.Math.Dec.{ltb→lt, nltb→le}
use Rattle.std.proofs.Math.IntN.{sub_ℕ}
use Rattle.std.specs.Int.Signed.{mag}
use Rattle.std.specs.Int.{Width}
use mir.Val.{SFits, hbits}
use Rattle.laws.specs.Signed.{by}
use Rattle.curve.specs.Layout.{signed_of}

module _ (high v : ℕ) (h : v ≤ high) where
  mag_less : mag (sub_ℕ v (high + 1)) ≡ high - v
  mag_less =
      by (ltb v (high + 1)) (negsuc (high + 1 - suc v)) (pos (v - (high + 1))) (λ z. mag z ≡ high - v)
      (λ t. omega arith)
      (λ t. let l : high + 1 ≤ v = nltb→le v (high + 1) t in omega arith)

  pub signed-fits : {w : Width} → high < 2 ^ hbits w + 2 ^ hbits w → SFits w (signed_of high v)
  unfolding signed_of
  signed-fits {w} few =
      by (ltb (high - v) v) (sub_ℕ v (high + 1)) (pos v) (SFits w)
      (λ t. let l : high - v < v = ltb→lt (high - v) v t in record { sfits = omega (arith, mag_less) })
      (λ t. let l : v ≤ high - v = nltb→le (high - v) v t in record { sfits = omega arith })
