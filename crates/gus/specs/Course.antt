-- Time and utility along a row of parts, in either mode.
use Rattle.std.specs.Prelude.{Bool, true, false, ◌&&◌, cond, ℕ, ◌+◌, eqb, pos, ◌+ℤ◌, ℤ, Option, Some}
use Rattle.curve.specs.Worth.{defined, amount}
use Rattle.curve.specs.Density.{denser_than}
use Rattle.gus.specs.declared.Course.{Course}
use Rattle.gus.specs.View.{View}

abbrev pub start : Course
start = record { time = 0; gain = pos 0; inside = true }

-- the time of a part in a mode: until what k requests is free, and until job i ends
abbrev pub span : View → Bool → ℕ → ℕ
span v b k = cond b (v.undo k) (v.hold k)

abbrev pub whole : View → Bool → ℕ → ℕ
whole v b i = cond b (v.rollback i) (v.run i)

-- WHAT A PART EARNS, in a group and in the choice of a mode alike: n of job i in the mode b, ended at a moment. "A normal run that is all its
-- run time left earns its worth at that moment": a finish, in either mode, earns what it is worth in that mode, or none. A part that finishes
-- nothing earns 0.
unfoldable pub earned : View → ℕ → Bool → ℕ → ℕ → Option ℤ
earned v i b n moment = elim (eqb n (whole v b i)) [ true ↦ v.worth b i moment | false ↦ Some (pos 0) ]

-- that part after a course that began at t; by none the course is no longer inside its curves, whatever comes after it
unfoldable pub onward : View → ℕ → ℕ → Bool → ℕ → Course → Course
onward v t i b n c =
    let w = earned v i b n (t + (c.time + n)) in
    record { time = c.time + n; gain = c.gain +ℤ amount w; inside = defined w && c.inside }

-- job i until what k requests is free; and in its own mode to its end: "runs to its end and earns its worth, or, if in rollback, rolls back to
-- its end"
unfoldable pub to_free : View → ℕ → ℕ → ℕ → Bool → Course → Course
to_free v t i k b c = onward v t i b (span v b k) c

unfoldable pub to_end : View → ℕ → ℕ → Course → Course
to_end v t i c = onward v t i (v.rolling i) (whole v (v.rolling i) i) c

-- more utility per millisecond, exactly
unfoldable pub denser : Course → Course → Bool
denser a b = denser_than a.gain a.time b.gain b.time
