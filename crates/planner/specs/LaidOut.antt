-- A group as the code returns it: in 32 places, with empty parts after its own.
use Rattle.std.specs.Prelude.{false, length}
use Rattle.laws.specs.Fill.{padded}
use Rattle.gus.specs.declared.Part.{Part}
use Rattle.gus.specs.Group.{Group, part_of}
use Rattle.planner.specs.declared.GroupParts.{GroupParts}

abbrev pub empty_part : Part
empty_part = part_of 0 false 0

unfoldable pub laid_out : Group → GroupParts
laid_out g = record { parts = padded 32 empty_part g.parts; count = length g.parts; course = g.course }
