-- `ilhuepatl::answer::put_victims`: the count, and the victims behind it.
use Rattle.std.proofs.Common.{◌∙◌, arith, set, ◌∷◌, length, length-set}
use Rattle.laws.specs.Stores.{over-sets}
use Rattle.ilhuepatl.proofs.Places.{copied}
use Rattle.ilhuepatl.proofs.answer.put_victims.Goals as goal

pub returns : goal.returns
returns c =
    let victims = c.args.victims.now in
    let out = c.args.out.now in
    let count = length victims in
    copied (set out 0 count) _ victims 1 (omega (arith, length-set out 0 count)) (omega arith) c.copy_from_slice.ensures.after
    ∙ over-sets (count ∷ victims) out (omega arith)
