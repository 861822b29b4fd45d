-- The order of courses by density: of two, one at most is denser; and each third is denser than one of them or less dense than the other.
use Rattle.std.specs.Prelude.{ℕ, ◌+◌, ◌*◌, ◌<◌, ◌≤◌, ◌≡◌, true, false, ltb}
use Rattle.std.proofs.Common.{add-mul, mul_right_comm, mul-le-mul_right, mul-lt-mul_of_pos_right, lt_of_mul-lt-mul_right, le_of_lt, arith, sym, ◌∙◌, lt-ltb, le-ltb, ltb-true, ltb-false}
use Rattle.laws.specs.Signed.{up, dn, up-mul, dn-mul, lt_z-is}
use Rattle.curve.specs.Density.{denser_than}
use Rattle.gus.specs.declared.Course.{Course}
use Rattle.gus.specs.Course.{denser}

-- the test on natural numbers: what is gained on one side, and what is lost on the other
by_parts : (a b : Course) → denser a b ≡ ltb (up b.gain * a.time + dn a.gain * b.time) (up a.gain * b.time + dn b.gain * a.time)
unfolding denser denser_than
by_parts a b = simp (lt_z-is, up-mul, dn-mul)

module _ (a b : Course) where
  denser-out : denser a b ≡ true → up b.gain * a.time + dn a.gain * b.time < up a.gain * b.time + dn b.gain * a.time
  denser-out e = ltb-true _ _ (sym (by_parts a b) ∙ e)

  denser-not : denser a b ≡ false → up a.gain * b.time + dn b.gain * a.time ≤ up b.gain * a.time + dn a.gain * b.time
  denser-not e = ltb-false _ _ (sym (by_parts a b) ∙ e)

  pub not_both : denser a b ≡ true → denser b a ≡ false
  not_both e = by_parts b a ∙ le-ltb _ _ (le_of_lt (denser-out e))

-- the fractions B/t, K/u and N/v, each a gain and a loss, multiplied out
across : (B B' K K' N N' t u v : ℕ) → 0 < u → B * u + K' * t ≤ K * t + B' * u → N * t + B' * v < B * v + N' * t → N * u + K' * v < K * v + N' * u
across B B' K K' N N' t u v l p q =
    let a = simp add-mul at (mul-le-mul_right v p) in
    let b = simp add-mul at (mul-lt-mul_of_pos_right {k = u} q l) in
    lt_of_mul-lt-mul_right t
    (simp add-mul (omega (arith, a, b, mul_right_comm B u v, mul_right_comm B' u v, mul_right_comm K t v, mul_right_comm K' t v, mul_right_comm N t u, mul_right_comm N' t u)))

module _ (k b n : Course) (some : 0 < k.time) where
  -- where b is at most as dense as k and n is less dense than b, n is less dense than k
  pub denser-under : denser b k ≡ false → denser b n ≡ true → denser k n ≡ true
  denser-under p q =
      by_parts k n
      ∙ lt-ltb _ _ (across (up b.gain) (dn b.gain) (up k.gain) (dn k.gain) (up n.gain) (dn n.gain) b.time k.time n.time some (denser-not b k p) (denser-out b n q))

  -- and the other way round
  pub denser-over : denser k b ≡ false → denser n b ≡ true → denser n k ≡ true
  denser-over p q =
      let p' = denser-not k b p in
      let q' = denser-out n b q in
      let r = across (dn b.gain) (up b.gain) (dn k.gain) (up k.gain) (dn n.gain) (up n.gain) b.time k.time n.time some (omega arith) (omega arith) in
      let l : up k.gain * n.time + dn n.gain * k.time < up n.gain * k.time + dn k.gain * n.time = omega arith in
      by_parts n k ∙ lt-ltb _ _ l
