-- The rules of 01's "The job book" that are more than a range of one field.
use Rattle.std.specs.Prelude.{ℕ, ◌-◌, Bool, true, false, cond, ltb, leb, eqb, nat_abs}
use Rattle.curve.specs.declared.Piece.{Piece}
use Rattle.curve.specs.Worth.{line_at}

-- "Rollback time: 1 to 30,000, or 65,535, the never mark"; the range of the field has the 1
unfoldable pub rollback_ok : ℕ → Bool
rollback_ok v = cond (leb v 30000) true (eqb v 65535)

-- "A resource number is below the resource count", or 255 for no request
unfoldable pub request_ok : ℕ → ℕ → Bool
request_ok resource resources = cond (eqb resource 255) true (ltb resource resources)

-- "with 255 both are 0": a bound of a request's hold or rollback
unfoldable pub if_requested : ℕ → ℕ → ℕ
if_requested resource bound = cond (eqb resource 255) 0 bound

-- "A held rollback is 1 to the job's rollback time, or never exactly when the job's is never": its least
unfoldable pub least_rollback : ℕ → ℕ
least_rollback rollback = cond (eqb rollback 65535) 65535 1

-- "a rollback job has a request or the never mark" is refused
unfoldable pub mode_ok : ℕ → ℕ → ℕ → Bool
mode_ok mode rollback resource = cond (eqb mode 0) true (cond (eqb rollback 65535) false (eqb resource 255))

-- a signed field, of the numbers 0 to high, is at most `most` away from 0
unfoldable pub around_ok : ℕ → ℕ → ℕ → Bool
around_ok v most high = cond (leb v most) true (ltb (high - v) most)

-- "its value there must be in range too": the line of a piece at t
unfoldable pub line_ok : Piece → ℕ → Bool
line_ok p t = leb (nat_abs (line_at p t)) 1000000
