-- `ilhuepatl::part::part_word`: job and mode above the 16 bits of the time.
use Rattle.std.proofs.Common.{◌∙◌}
use Rattle.ilhuepatl.specs.Calls.{part_word}
use Rattle.ilhuepatl.proofs.Bytes.{flag_byte}
use Rattle.ilhuepatl.proofs.part.part_word.Goals as goal

pub returns : goal.returns
unfolding part_word
returns c = rw (c.from.ensures, c.from-2.ensures ∙ flag_byte c.args.p.rolling, c.from-3.ensures)
