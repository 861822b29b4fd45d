-- `cursor::field::value_at` meets its contract.
use Prim.Native.Nat.{ℕ, ◌+◌, ◌*◌, ◌≤◌}
use mathlib.Core.Path.{◌≡◌, sym, ◌∙◌}
use mathlib.Core.List.{List}
use lib.ListN.{get_or, length}
use native.Mathlib.Omega.{arith}
use borrow.Author.Tests.{ne_eqb}
use Rattle.cursor.specs.Field.{value_at, value_in}
use Rattle.cursor.specs.Value.{value_there, value-cut, some-room}
use Rattle.cursor.proofs.field.value_at.Goals as goal
use Rattle.cursor.proofs.field.value_at.Goals.{then-s-n-via-then-s-n, then-s-n-via-else-s-n+then-s-n-2}

pub returns-then-s-n : goal.returns-then-s-n
returns-then-s-n c =
    let a = c.args in
    elim c.then-s-n.branch [
      | then-s-n-via-then-s-n w ↦ (sym (value-cut a.s.now a.place a.n (omega arith)), some-room a.n)
      | then-s-n-via-else-s-n+then-s-n-2 w ↦ (sym (value-cut a.s.now a.place a.n (omega arith)), some-room a.n)
    ]

-- the number of the bytes that are there
module _ (s : List ℕ) (place : ℕ) where
  one : {x : ℕ} → place + 1 ≤ length s → x ≡ get_or s place 0 → x ≡ value_in s place 1
  unfolding value_at
  one there e = e ∙ sym (value_there s place 1 there)

  two : {x : ℕ} → place + 2 ≤ length s → x ≡ get_or s place 0 * 256 + get_or s (place + 1) 0 → x ≡ value_in s place 2
  unfolding value_at
  two there e = e ∙ sym (value_there s place 2 there)

  four : {x : ℕ} → place + 4 ≤ length s → x ≡ get_or s place 0 * 16777216 + get_or s (place + 1) 0 * 65536 + get_or s (place + 2) 0 * 256 + get_or s (place + 3) 0 → x ≡ value_in s place 4
  unfolding value_at
  four there e = e ∙ sym (value_there s place 4 there)

pub returns-in-1 : goal.returns-in-1
returns-in-1 c = let a = c.args in rw c.in-1.is (one a.s.now a.place (omega arith) c.from.ensures, omega (arith, c.from.ensures, c.type_inv.s a.place))

pub returns-in-2 : goal.returns-in-2
returns-in-2 c =
    let a = c.args in
    let e = c.from-in-2.ensures ∙ c.from_be_bytes.ensures in
    rw c.in-2.is (two a.s.now a.place (omega arith) e, omega (arith, e, c.type_inv.s a.place, c.type_inv.s (a.place + 1)))

pub returns-in-4 : goal.returns-in-4
returns-in-4 c =
    let a = c.args in
    rw c.in-4.is (four a.s.now a.place (omega arith) c.from_be_bytes-in-4.ensures, omega (arith, c.from_be_bytes-in-4.ensures, c.type_inv.s a.place, c.type_inv.s (a.place + 1), c.type_inv.s (a.place + 2), c.type_inv.s (a.place + 3)))

pub returns-in_default : goal.returns-in_default
unfolding value_at
returns-in_default c =
    let a = c.args in
    ((simp (ne_eqb a.n 1 (λ e. omega (arith, e)), ne_eqb a.n 2 (λ e. omega (arith, e)), ne_eqb a.n 4 (λ e. omega (arith, e)))) ∙ sym (value_there a.s.now a.place a.n (omega arith)), some-room a.n)
