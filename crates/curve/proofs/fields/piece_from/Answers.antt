-- `curve::fields::piece_from` meets its contract.
use native.Mathlib.Omega.{arith}
use mir.Val.{SFits}
use mir.Syntax.{w16, w32}
use mir.Facts.{to_z-of_z}
use borrow.Author.Rules.{rules}
use Rattle.curve.proofs.Bytes.{signed_bits}
use Rattle.curve.proofs.fields.piece_from.Goals as goal

pub returns : goal.returns
returns c =
    let value : SFits w32 c.cast_signed.result = search rules in
    let slope : SFits w16 c.cast_signed-2.result = search rules in
    rw (to_z-of_z value, to_z-of_z slope, c.cast_signed.ensures, c.cast_signed-2.ensures, signed_bits w32 c.args.value (omega arith), signed_bits w16 c.args.slope (omega arith))
