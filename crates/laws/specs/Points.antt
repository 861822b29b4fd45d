-- Sums over the numbers below n, and the sum of what is 1 at one place.
use Rattle.std.specs.Prelude.{ℕ, zero, suc, ◌+◌, ◌<◌, ◌≤◌, ◌≡◌, refl, ◌≢◌, cond, eqb}
use Rattle.std.proofs.Common.{not-suc-le-zero, arith, eq-eqb, ne_eqb}
use Rattle.std.proofs.Math.Decide.{ℕ_discrete}

unfoldable pub sum_to : ℕ → (ℕ → ℕ) → ℕ
sum_to zero f = 0
sum_to (suc n) f = f n + sum_to n f

-- 1 at w
unfoldable pub point : ℕ → ℕ → ℕ
point w r = cond (eqb w r) 1 0

pub point-same : (w : ℕ) → point w w ≡ 1
unfolding point
point-same w = rw (eq-eqb w w refl)

pub point-other : (w r : ℕ) → w ≢ r → point w r ≡ 0
unfolding point
point-other w r ne = rw (ne_eqb w r ne)

pub sum-le : (n : ℕ) (f d g e : ℕ → ℕ) → ((r : ℕ) → f r + d r ≤ g r + e r) → sum_to n f + sum_to n d ≤ sum_to n g + sum_to n e
unfolding sum_to
sum-le zero f d g e h = omega arith
sum-le (suc n) f d g e h = omega (arith, h n, sum-le n f d g e h)

pub sum-most : (n : ℕ) (f : ℕ → ℕ) → ((r : ℕ) → f r ≤ 1) → sum_to n f ≤ n
unfolding sum_to
sum-most zero f h = omega arith
sum-most (suc n) f h = omega (arith, h n, sum-most n f h)

pub points-out : (n w : ℕ) → n ≤ w → sum_to n (point w) ≡ 0
unfolding sum_to
points-out zero w h = refl
points-out (suc n) w h = omega (arith, point-other w n (λ e. absurd (omega arith)), points-out n w (omega arith))

pub points-in : (n w : ℕ) → w < n → sum_to n (point w) ≡ 1
unfolding sum_to
points-in zero w h = absurd (not-suc-le-zero h)
points-in (suc n) w h = elim (ℕ_discrete w n) [
  | yes e ↦ rw e (omega (arith, point-same n, points-out n n (omega arith)))
  | no ne ↦ omega (arith, point-other w n ne, points-in n w (omega arith))
]
