-- `ilhuepatl::part::put_parts`: the count, and the bytes of one part after another behind it.
use Rattle.std.proofs.Common.{refl, ◌∙◌, ap, arith, List, set, false, ◌∷◌, ◌+◌, ◌*◌, length, take, get_or, length-set, length-take-le}
use Rattle.std.proofs.Math.Seq.{take-length}
use Rattle.std.proofs.lemmas.List.Edits.{sets}
use Rattle.gus.specs.declared.Part.{Part}
use Rattle.gus.specs.Group.{part_of}
use Rattle.ilhuepatl.specs.Answer.{part_bytes, parts_bytes}
use Rattle.ilhuepatl.specs.Parts.{part_length, parts-length, parts-snoc}
use Rattle.laws.specs.Stores.{storing-next, storing-ended, storing-length, over-sets}
use Rattle.ilhuepatl.proofs.Places.{copied}
use Rattle.ilhuepatl.proofs.part.put_parts.Goals as goal

pub loop-i-init : goal.loop-i-init
unfolding parts_bytes
loop-i-init c = record { within = omega arith; stored = refl }

pub loop-i-preserved : goal.loop-i-preserved
loop-i-preserved c =
    let parts = c.args.parts.now in
    let l = c.loop-i in
    let p : Part = get_or parts l.i (part_of 0 false 0) in
    let room = storing-length l.invariant in
    storing-next (part_bytes p) (1 + 4 * l.i) (part_of 0 false 0) l.invariant c.loop-i-test.true (omega arith) (parts-snoc (take l.i parts) p)
    (omega (arith, parts-length (take l.i parts), length-take-le l.i parts (omega arith)))
    (copied l.out _ (part_bytes p) (1 + 4 * l.i) (omega (arith, room, length-set c.args.out.now 0 (length parts))) (omega (arith, part_length p)) (c.copy_from_slice.ensures.after ∙ c.bytes_of.ensures))

pub returns : goal.returns
returns c =
    let parts = c.args.parts.now in
    let out = c.args.out.now in
    storing-ended c.loop-i.invariant c.loop-i-test.false
    ∙ ap (λ (ps : List Part). sets (set out 0 (length parts)) 1 (parts_bytes ps)) (take-length parts)
    ∙ over-sets (length parts ∷ parts_bytes parts) out (omega (arith, parts-length parts))
