-- `curve::denser` meets its contract.
use mir.Syntax.{w64}
use mir.Facts.{to_z-of_z}
use borrow.Author.Rules.{rules}
use Rattle.curve.specs.Density.{denser_than}
use Rattle.curve.proofs.denser.Goals as goal

pub returns : goal.returns
unfolding denser_than
returns c =
    rw (to_z-of_z {w = w64} {z = c.times.result} (search rules), to_z-of_z {w = w64} {z = c.times-2.result} (search rules), c.times.ensures, c.times-2.ensures, to_z-of_z c.ranges.othergain, to_z-of_z c.ranges.gain)
