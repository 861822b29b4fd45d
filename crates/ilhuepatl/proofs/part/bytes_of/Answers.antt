-- `ilhuepatl::part::bytes_of`: job and mode, and the two bytes of the time.
use Rattle.std.proofs.Common.{◌∙◌}
use Rattle.ilhuepatl.specs.Answer.{two, part_bytes}
use Rattle.ilhuepatl.proofs.Bytes.{flag_byte}
use Rattle.ilhuepatl.proofs.part.bytes_of.Goals as goal

pub returns : goal.returns
unfolding part_bytes two
returns c = rw (c.from.ensures ∙ flag_byte c.args.p.rolling, c.to_be_bytes.ensures)
