-- `planner::sheet::Sheet::put_own` meets its contract.
use Rattle.std.specs.Prelude.{◌≡◌, Bool, true, false, refl}
use Rattle.std.specs.Int.{from_bool}
use Rattle.planner.specs.Putting.{mode_of, owned}
use Rattle.planner.proofs.sheet.Sheet.put_own.Goals as goal

mode-is : (rolling : Bool) → from_bool rolling ≡ mode_of rolling
mode-is true = refl
mode-is false = refl

pub returns : goal.returns
unfolding owned
returns c =
    rw
    (c.link.ensures, c.put-4.ensures, c.from-4.ensures, c.put-3.ensures, c.from-3.ensures, mode-is, c.put-2.ensures, c.from-2.ensures, c.put.ensures, c.from.ensures)
