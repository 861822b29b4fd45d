-- `ilhuepatl::calls::worth_bits` meets its contract.
use mathlib.Core.Path.{◌≡◌, subst, sym, ap, ◌∙◌}
use lib.IntN.{ℤ}
use borrow.Author.Rules.{rules}
use Rattle.std.specs.Prelude.{Option, Some}
use Prim.Native.Nat.{◌≤◌}
use native.Mathlib.Omega.{arith}
use lib.IntN.{nat_abs}
use mir.Syntax.{w32, w64}
use mir.Val.{SFits}
use mir.Facts.{to_z-of_z}
use Rattle.laws.specs.Signed.{fits-abs}
use Rattle.curve.specs.Worth.{amount}
use Rattle.ilhuepatl.specs.Calls.{worth_bits}
use Rattle.ilhuepatl.proofs.Bytes.{bits_are}
use Rattle.ilhuepatl.proofs.calls.worth_bits.Goals as goal

narrow : {w : Option ℤ} {n : ℤ} → nat_abs (amount w) ≤ 1000000 → w ≡ Some n → SFits w32 n
narrow {n = n} h e =
    let most : nat_abs n ≤ 1000000 = subst (λ (w : Option ℤ). nat_abs (amount w) ≤ 1000000) e h in
    fits-abs _ (omega arith)

pub overflow_cast-n : goal.overflow_cast-n
overflow_cast-n c =
    let wide : SFits w64 c.in-Some.n = search rules in
    rw (to_z-of_z wide) (narrow c.requires c.in-Some.is)

pub returns-in-None : goal.returns-in-None
returns-in-None c = ap worth_bits (sym c.in-None.is)

pub returns-in-Some : goal.returns-in-Some
returns-in-Some c =
    let wide : SFits w64 c.in-Some.n = search rules in
    let fits : SFits w32 c.in-Some.n = narrow c.requires c.in-Some.is in
    c.from.ensures ∙ (rw (to_z-of_z wide, to_z-of_z fits) at c.cast_unsigned.ensures) ∙ bits_are c.in-Some.n fits ∙ ap worth_bits (sym c.in-Some.is)
