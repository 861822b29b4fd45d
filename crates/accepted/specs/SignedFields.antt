-- A signed field passes exactly when its number is near enough to 0.
use Rattle.std.specs.Prelude.{ℕ, ◌+◌, ◌-◌, ◌≤◌, ◌≡◌, Bool, List, length, pos, nat_abs}
use Rattle.std.proofs.Common.{arith}
use Rattle.std.proofs.Math.Path.{refl}
use Rattle.std.proofs.Math.Bool.{true, false, cond}
use Rattle.std.proofs.Math.Dec.{ltb, leb}
use Rattle.std.proofs.Math.IntN.{sub_ℕ}
use borrow.Author.Tests.{lt-ltb, ltb-true, ltb-false, leb-true, leb-false}
use Rattle.laws.specs.Signed.{abs_is, up-sub, dn-sub}
use Rattle.cursor.specs.Reading.{Reading}
use Rattle.cursor.specs.Refusal.{RANGE}
use Rattle.cursor.specs.Field.{value_at, got_at}
use Rattle.curve.specs.Layout.{signed_of}
use Rattle.book.specs.Rules.{around_ok}
use Rattle.book.specs.Format.{signed_read}
use Rattle.accepted.specs.Fields.{Onward, ruled-got, ruled-back}

-- ---- the test
module _ (v most high : ℕ) (h : v ≤ high) (wide : most + most ≤ high) where
  -- how far from 0, by the sign
  away : (b : Bool) → ltb (high - v) v ≡ b → nat_abs (cond b (sub_ℕ v (high + 1)) (pos v)) ≡ cond b (high + 1 - v) v
  away true e = omega (arith, abs_is (sub_ℕ v (high + 1)), up-sub v (high + 1), dn-sub v (high + 1))
  away false e = refl

  pub around-near : around_ok v most high ≡ true → nat_abs (signed_of high v) ≤ most
  unfolding around_ok signed_of
  around-near t = rw (away (ltb (high - v) v) refl) (go (leb v most) (ltb (high - v) v) refl refl t)
    where
      go : (a b : Bool) → leb v most ≡ a → ltb (high - v) v ≡ b → cond a true (ltb (high - v) most) ≡ true → cond b (high + 1 - v) v ≤ most
      go true true p q r = absurd (omega (arith, leb-true v most p, ltb-true (high - v) v q))
      go true false p q r = leb-true v most p
      go false true p q r = omega (arith, ltb-true (high - v) most r)
      go false false p q r = absurd (omega (arith, ltb-false (high - v) v q, ltb-true (high - v) most r, leb-false v most p))

  pub near-around : nat_abs (signed_of high v) ≤ most → around_ok v most high ≡ true
  unfolding around_ok signed_of
  near-around t = go (leb v most) (ltb (high - v) v) refl refl (rw (away (ltb (high - v) v) refl) at t)
    where
      go : (a b : Bool) → leb v most ≡ a → ltb (high - v) v ≡ b → cond b (high + 1 - v) v ≤ most → cond a true (ltb (high - v) most) ≡ true
      go true b p q r = refl
      go false true p q r = lt-ltb (high - v) most (omega arith)
      go false false p q r = absurd (omega (arith, leb-false v most p))

module _ (s : List ℕ) (n most high : ℕ) (wide : most + most ≤ high) (r : Reading) (p : ℕ) (o : Onward r p) where
  pub signed-got : p + n ≤ length s → value_at s p n ≤ high → nat_abs (signed_of high (value_at s p n)) ≤ most → signed_read s n most high r ≡ got_at p n (value_at s p n)
  unfolding signed_read
  signed-got f m t = ruled-got s n 0 high RANGE (λ v. around_ok v most high) r p o (record { fits = f; least = omega arith; most = m }) (near-around (value_at s p n) most high m wide t)

  pub signed_back : (signed_read s n most high r).number ≡ 0 → (p + n ≤ length s) × (value_at s p n ≤ high) × (nat_abs (signed_of high (value_at s p n)) ≤ most)
  unfolding signed_read
  signed_back h =
      let k = ruled-back s n 0 high RANGE (λ v. around_ok v most high) r p o (omega arith) h in
      (k.0.fits, k.0.most, around-near (value_at s p n) most high k.0.most wide k.1)
