-- `cursor::field::field` meets its contract.
use Rattle.std.proofs.Common.{ℕ, ◌-◌, ◌≤◌, List, length}
use native.Mathlib.Omega.{arith}
use mathlib.Core.Path.{◌≡◌, ◌∙◌}
use borrow.Author.Tests.{lt-ltb, le-ltb}
use Rattle.cursor.specs.Field.{value_at, value_in}
use Rattle.cursor.specs.Value.{value_there}
use Rattle.cursor.specs.Answer.{field_at}
use Rattle.cursor.proofs.field.field.Goals as goal
use Rattle.cursor.proofs.field.field.Goals.{then-s-n-via-then-s-n, then-s-n-via-else-s-n+then-s-n-2, then-value-low-via-then-value-low, then-value-low-via-else-value-low+then-high-value}

pub returns-then-s-n : goal.returns-then-s-n
unfolding field_at
returns-then-s-n c = elim c.then-s-n.branch [
  | then-s-n-via-then-s-n w ↦ simp (lt-ltb _ _ w.if-s-n.true)
  | then-s-n-via-else-s-n+then-s-n-2 w ↦ simp (le-ltb _ _ w.if-s-n.false, lt-ltb _ _ w.if-s-n-2.true)
]

-- the bytes are there
value : (s : List ℕ) {place n v : ℕ} → v ≡ value_in s place n → n ≤ length s → place ≤ length s - n → v ≡ value_at s place n
value s {place} {n} e fits within = e ∙ value_there s place n (omega arith)

pub returns-then-value-low : goal.returns-then-value-low
unfolding field_at
returns-then-value-low c =
    let v = value c.args.s.now c.value_at-value.ensures.0 c.if-s-n.false c.if-s-n-2.false in
    elim c.then-value-low.branch [
      | then-value-low-via-then-value-low w ↦ simp (le-ltb _ _ c.if-s-n.false, le-ltb _ _ c.if-s-n-2.false, ← v, lt-ltb _ _ w.if-value-low.true)
      | then-value-low-via-else-value-low+then-high-value w ↦ simp (le-ltb _ _ c.if-s-n.false, le-ltb _ _ c.if-s-n-2.false, ← v, le-ltb _ _ w.if-value-low.false, lt-ltb _ _ w.if-high-value.true)
    ]

pub returns : goal.returns
unfolding field_at
returns c =
    let v = value c.args.s.now c.value_at-value.ensures.0 c.if-s-n.false c.if-s-n-2.false in
    simp (le-ltb _ _ c.if-s-n.false, le-ltb _ _ c.if-s-n-2.false, ← v, le-ltb _ _ c.if-value-low.false, le-ltb _ _ c.if-high-value.false)
