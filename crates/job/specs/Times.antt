-- Rollback times: the never mark, and sums that stop at it. (The difference a - b of natural numbers stops at 0.)
use Rattle.std.specs.Prelude.{ℕ, ◌+◌, ◌<◌, ◌≤◌, min, ◌≡◌, ◌⊎◌, Bool, true, false, cond, ◌||◌, eqb}
use Rattle.std.proofs.Math.Decide.{dec_lt}
use Rattle.std.proofs.Common.{arith, inl, inr, eq-eqb, ne_eqb}
use Rattle.std.proofs.Math.Bool.{or-true}

-- 01, "Numbers": the mark of a job that can't be rolled back
abbrev pub never : ℕ
never = 65535

abbrev pub plus : ℕ → ℕ → ℕ
plus a b = min (a + b) never

abbrev pub either_never : ℕ → ℕ → Bool
either_never a b = eqb a never || eqb b never

abbrev pub or_never : Bool → ℕ → ℕ
or_never is_never time = cond is_never never time

-- The stop is never met in 01's ranges: a rollback that is not never is at most 30,000.
pub in-range-below : {a b : ℕ} → a ≤ 30000 → b ≤ 30000 → a + b < never
in-range-below h k = omega arith

-- one of two times is never, or none is
pub either-or-neither : {a b : ℕ} → a ≤ never → b ≤ never → (either_never a b ≡ true) ⊎ ((either_never a b ≡ false) × (a < never) × (b < never))
either-or-neither {a} {b} h k = elim (dec_lt a never) [
  | yes l ↦ elim (dec_lt b never) [
    | yes m ↦ inr (rw (ne_eqb a never (omega arith), ne_eqb b never (omega arith)), l, m)
    | no m ↦ inl (rw (eq-eqb b never (omega arith)) (or-true (eqb a never)))
  ]
  | no l ↦ inl (rw (eq-eqb a never (omega arith)))
]

pub or-never-le : (b : Bool) {x y : ℕ} → x ≤ y → or_never b x ≤ or_never b y
or-never-le true h = omega arith
or-never-le false h = h

pub le-or-never : (b : Bool) {x : ℕ} → x ≤ never → x ≤ or_never b x
le-or-never true h = h
le-or-never false h = omega arith

pub or-never-most : (b : Bool) {x : ℕ} → x ≤ never → or_never b x ≤ never
or-never-most true h = omega arith
or-never-most false h = h
