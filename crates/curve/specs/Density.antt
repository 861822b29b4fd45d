-- Utility per millisecond, compared exactly.
use Rattle.std.specs.Prelude.{◌≡◌, refl, Bool, true, ℕ, ◌+◌, ◌*◌, ◌/◌, ◌<◌, ltb, ℤ, pos, ◌*ℤ◌}
use Rattle.std.proofs.Common.{add-mul, mul_right_comm, mul-le-mul_right, mul-lt-mul_of_pos_right, lt_of_mul-lt-mul_right, le_of_lt, arith}
use Rattle.std.specs.Int.Signed.{lt_z}
use Rattle.laws.specs.Signed.{up, dn, up-mul, dn-mul, lt_z-is}

-- whether g / t is more than h / u: "Densities are compared exactly, as fractions"
unfoldable pub denser_than : ℤ → ℕ → ℤ → ℕ → Bool
denser_than g t h u = lt_z (h *ℤ pos t) (g *ℤ pos u)

-- 22/6 is more than 22/7, though both whole quotients are 3
pub finer : (denser_than (pos 22) 6 (pos 22) 7 ≡ true) × ((22 / 6 ≡ 3) × (22 / 7 ≡ 3))
unfolding denser_than
finer = (refl, (refl, refl))

-- the same test on natural numbers: what is gained on one side, and what is lost on the other
pub by_parts : (g : ℤ) (t : ℕ) (h : ℤ) (u : ℕ) → denser_than g t h u ≡ ltb (up h * t + dn g * u) (up g * u + dn h * t)
unfolding denser_than
by_parts g t h u = simp (lt_z-is, up-mul, dn-mul)

-- G/t, H/u and K/v, each less its loss, multiplied out
pub across : (G G' H H' K K' t u v : ℕ) → 0 < v → H * t + G' * u < G * u + H' * t → K * u + H' * v < H * v + K' * u → K * t + G' * v < G * v + K' * t
across G G' H H' K K' t u v l p q =
    let a = simp add-mul at (mul-lt-mul_of_pos_right {k = v} p l) in
    let b = simp add-mul at (mul-le-mul_right t (le_of_lt q)) in
    lt_of_mul-lt-mul_right u
    (simp add-mul (omega (arith, a, b, mul_right_comm H t v, mul_right_comm H' t v, mul_right_comm G u v, mul_right_comm G' u v, mul_right_comm K u t, mul_right_comm K' u t)))
