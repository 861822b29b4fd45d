-- What rests on specs/Signed.antt.
use Rattle.std.specs.Prelude.{◌≡◌, refl, ℕ, suc, ◌+◌, ◌*◌, ◌-◌, ◌≤◌, ℤ, pos, negsuc, neg_ℤ, nat_abs, ◌+ℤ◌, ◌*ℤ◌}
use Rattle.std.proofs.Common.{sym, ap, ◌∙◌, mul-le-mul, arith}
use Rattle.std.proofs.Math.IntN.{neg_ℤ-+ℤ}
use Rattle.laws.specs.Signed.{abs_is, dn, dn-neg, up, up-add, up_neg}

pub dn-add : (x y : ℤ) → dn (x +ℤ y) ≡ dn x + dn y - (up x + up y)
dn-add x y = sym (up_neg (x +ℤ y)) ∙ ap up (neg_ℤ-+ℤ x y) ∙ up-add (neg_ℤ x) (neg_ℤ y) ∙ simp (up_neg, dn-neg)

-- takes a statement on sums, negations and absolute values to one on the parts of the numbers in them
pub ruleset parts = (abs_is, up-add, dn-add, up_neg, dn-neg)

pub abs_neg : (z : ℤ) → nat_abs (neg_ℤ z) ≡ nat_abs z
abs_neg z = simp parts (omega arith)

pub abs-add : (x y : ℤ) → nat_abs (x +ℤ y) ≤ nat_abs x + nat_abs y
abs-add x y = simp parts (omega arith)

abs-mul : (x y : ℤ) → nat_abs (x *ℤ y) ≡ nat_abs x * nat_abs y
abs-mul (pos a) (pos b) = refl
abs-mul (pos a) (negsuc b) = abs_neg (pos (a * suc b))
abs-mul (negsuc a) (pos b) = abs_neg (pos (suc a * b))
abs-mul (negsuc a) (negsuc b) = refl

pub abs-mul-le : (x y : ℤ) (m n : ℕ) → nat_abs x ≤ m → nat_abs y ≤ n → nat_abs (x *ℤ y) ≤ m * n
abs-mul-le x y m n h k = rw abs-mul (mul-le-mul h k)
