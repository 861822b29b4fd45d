-- `curve::line_at` meets its contract: a slope's product is below 2 ^ 47, and with the value the sum is below 2 ^ 63.
use Prim.Native.Nat.{◌*◌, ◌-◌, ◌^◌, ◌≤◌}
use native.Mathlib.Omega.{arith}
use lib.IntN.{pos, nat_abs, ◌+ℤ◌, ◌*ℤ◌}
use mir.Syntax.{w16, w32, w64}
use mir.Val.{SFits}
use mir.Facts.{to_z-of_z, sfits_widen}
use borrow.Author.Rules.{rules}
use Rattle.laws.specs.Signed.{fits-abs, abs-fits}
use Rattle.laws.proofs.Signed.{abs-add, abs-mul-le}
use Rattle.curve.proofs.line_at.Goals as goal

pub returns : goal.returns
returns c =
    let p = c.args.p in
    let time = c.args.t - p.start in
    let value : SFits w32 p.value = search rules in
    let slope : SFits w16 p.slope = search rules in
    let value64 : SFits w64 p.value = sfits_widen tt value in
    let slope32 : SFits w32 p.slope = sfits_widen tt slope in
    let small : nat_abs (p.slope *ℤ pos time) ≤ 2 ^ 15 * 2 ^ 32 = abs-mul-le p.slope (pos time) (2 ^ 15) (2 ^ 32) (abs-fits p.slope slope) (omega arith) in
    let sum : SFits w64 (p.value +ℤ p.slope *ℤ pos time) = fits-abs _ (omega (arith, small, abs-add p.value (p.slope *ℤ pos time), abs-fits p.value value)) in
    let product : SFits w64 c.times.result = search rules in
    rw (to_z-of_z product, c.times.ensures, c.saturating_sub.ensures, c.from.ensures, c.from-2.ensures, to_z-of_z value, to_z-of_z value64, to_z-of_z slope, to_z-of_z slope32, to_z-of_z sum)
