-- The columns of the sheet, by name.
use Rattle.std.specs.Prelude.{List, ℕ}
use Rattle.planner.specs.Sheet.{cell, run_in, rollback_in, hold_in, undo_in, waits_in, end_in, pieces_in, asks_in}
use Rattle.planner.specs.declared.sheet.Column.{Column}
use Rattle.planner.specs.declared.sheet.Column.TheVariants.{Run, Rollback, Hold, Undo, Waits, Mode, End, Pieces, Asks}

abbrev pub number_of : Column → ℕ
number_of Run = 0
number_of Rollback = 1
number_of Hold = 2
number_of Undo = 3
number_of Waits = 4
number_of Mode = 5
number_of End = 6
number_of Pieces = 7
number_of Asks = 8

abbrev pub cell_in : Column → List ℕ → ℕ → ℕ
cell_in Run sheet = run_in sheet
cell_in Rollback sheet = rollback_in sheet
cell_in Hold sheet = hold_in sheet
cell_in Undo sheet = undo_in sheet
cell_in Waits sheet = waits_in sheet
cell_in Mode sheet = cell 5 sheet 0
cell_in End sheet = end_in sheet
cell_in Pieces sheet = pieces_in sheet
cell_in Asks sheet = asks_in sheet
