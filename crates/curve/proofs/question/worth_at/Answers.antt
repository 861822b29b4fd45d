-- `curve::question::worth_at` meets its contract.
use Prim.Native.Nat.{ℕ, ◌≤◌}
use mathlib.Core.Bool.{true}
use mathlib.Core.List.{List}
use mathlib.Core.Path.{◌≡◌, sym, ◌∙◌}
use native.Mathlib.Omega.{arith}
use lib.Dec.{ltb}
use lib.ListN.{length, get_or}
use Rattle.std.proofs.Common.{ltb-true, ltb-false}
use Rattle.std.proofs.lemmas.List.{get_or_default}
use Rattle.cursor.specs.Field.{value_at}
use Rattle.curve.specs.Layout.{piece_place}
use Rattle.curve.specs.Question.{stands-many, stands-cut, worth_from}
use Rattle.curve.specs.Before.{worth_before}
use Rattle.curve.proofs.Before.{before-anywhere}
use Rattle.curve.proofs.question.worth_at.Goals as goal

-- the byte that is there is the count
count : (s : List ℕ) (place b n : ℕ) → true ≡ ltb place (length s) → b ≡ get_or s place b → n ≡ b → n ≡ value_at s place 1
unfolding value_at
count s place b n there is e = e ∙ is ∙ get_or_default s place b 0 (ltb-true _ _ (sym there))

pub returns-in_err-get : goal.returns-in_err-get
returns-in_err-get c =
    let a = c.args in
    c.from_residual.ensures ∙ sym (stands-cut a.s.now a.place a.t (omega (arith, ltb-false a.place (length a.s.now) (sym c.in_err-get.ensures.lookup.0))))

pub returns-then-pieces-gt8 : goal.returns-then-pieces-gt8
returns-then-pieces-gt8 c =
    let a = c.args in
    let found = c.in_ok-get.ensures.lookup in
    sym (stands-many a.s.now a.place a.t (omega (arith, count a.s.now a.place _ _ found.0 found.1 c.from-pieces.ensures)))

-- the question of the curve's termination, by the place where it stands
asked : (s : List ℕ) (place end n t : ℕ) → n ≡ value_at s place 1 → n ≤ 8 → end ≡ piece_place place n → worth_before s end n t ≡ worth_from s place t
asked s place end n t read few stands = rw (stands, read) (before-anywhere s place t (omega (arith, read)))

pub returns : goal.returns
returns c =
    let a = c.args in
    let found = c.in_ok-get.ensures.lookup in
    c.worth_before.ensures ∙ asked a.s.now a.place _ _ a.t (count a.s.now a.place _ _ found.0 found.1 c.from-pieces.ensures) (omega arith) (omega arith)
