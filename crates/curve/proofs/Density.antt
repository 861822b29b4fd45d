-- What rests on specs/Density.antt.
use Rattle.std.specs.Prelude.{◌≡◌, refl, true, false, ℕ, ◌+◌, ◌*◌, ◌<◌, ◌≤◌, ℤ, pos, negsuc}
use Rattle.std.proofs.Common.{sym, ◌∙◌, zero-mul, mul-pos, arith, lt-ltb, le-ltb, ltb-true}
use Rattle.std.specs.Int.Signed.{lt_z}
use Rattle.laws.specs.Signed.{up, dn, tight, lt_z-true, lt_z-false}
use Rattle.curve.specs.Density.{across, by_parts, denser_than}

module _ (g : ℤ) (t : ℕ) (h : ℤ) (u : ℕ) where
  denser-out : denser_than g t h u ≡ true → up h * t + dn g * u < up g * u + dn h * t
  denser-out e = ltb-true _ _ (sym (by_parts g t h u) ∙ e)

  denser-in : up h * t + dn g * u < up g * u + dn h * t → denser_than g t h u ≡ true
  denser-in l = by_parts g t h u ∙ lt-ltb _ _ l

-- A strict order. One positive time is enough for the second law.
pub denser-irreflexive : (g : ℤ) (t : ℕ) → denser_than g t g t ≡ false
denser-irreflexive g t = let same : up g * t + dn g * t ≤ up g * t + dn g * t = omega arith in by_parts g t g t ∙ le-ltb _ _ same

pub denser-transitive : (g : ℤ) (t : ℕ) (h : ℤ) (u : ℕ) (k : ℤ) (v : ℕ) → 0 < v → denser_than g t h u ≡ true → denser_than h u k v ≡ true → denser_than g t k v ≡ true
denser-transitive g t h u k v l p q =
    denser-in g t k v (across (up g) (dn g) (up h) (dn h) (up k) (dn k) t u v l (denser-out g t h u p) (denser-out h u k v q))

-- a group worth more than zero is denser than one that is not
pub denser-some : (g : ℤ) (t : ℕ) (h : ℤ) (u : ℕ) → 0 < u → lt_z (pos 0) g ≡ true → lt_z (pos 0) h ≡ false → denser_than g t h u ≡ true
denser-some g t h u l p q =
    let gain : 0 < up g = omega (arith, lt_z-true (pos 0) g p) in
    let loss : dn g ≡ 0 = omega (arith, lt_z-true (pos 0) g p, tight g) in
    let none : up h ≡ 0 = omega (arith, lt_z-false (pos 0) h q, tight h) in
    denser-in g t h u (rw (loss, none) (omega (arith, zero-mul t, zero-mul u, mul-pos gain l)))

-- what is denser than a group worth more than zero is worth more than zero itself
pub denser-none : (g : ℤ) (t : ℕ) (h : ℤ) (u : ℕ) → denser_than g t h u ≡ true → lt_z (pos 0) g ≡ false → lt_z (pos 0) h ≡ false
denser-none g t (negsuc n) u d q = refl
denser-none g t (pos n) u d q =
    let none : up g ≡ 0 = omega (arith, lt_z-false (pos 0) g q, tight g) in
    absurd (omega (arith, rw none at (denser-out g t (pos n) u d), zero-mul t, zero-mul u))
