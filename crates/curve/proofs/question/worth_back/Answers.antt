-- `curve::question::worth_back` meets its contract: the loop walks the pieces from the termination back.
use Prim.Native.Nat.{ℕ, ◌+◌, ◌-◌, ◌<◌}
use mathlib.Core.List.{List}
use mathlib.Core.Path.{◌≡◌, ap, ◌∙◌}
use native.Mathlib.Omega.{arith}
use lib.ListN.{length, take}
use mir.Syntax.{w64}
use mir.Facts.{to_z-of_z}
use borrow.Author.Rules.{rules}
use Rattle.std.specs.Prelude.{Some}
use Rattle.curve.specs.declared.Piece.{Piece}
use Rattle.curve.specs.Layout.{piece_at}
use Rattle.curve.specs.Before.{backing-begin, backing-short, backing-served, backing-next, worth_back}
use Rattle.curve.proofs.Before.{backing-none}
use Rattle.curve.proofs.Bytes.{piece_behind, back_before}
use Rattle.curve.proofs.question.worth_back.Goals as goal

-- once a piece that does not serve is split off
passed : (before rest : List ℕ) (t left n : ℕ) (piece : Piece) → rest ≡ take (length before - 10) before → length rest + 10 ≡ length before → n + 1 ≡ left → piece ≡ piece_at before (length before - 10) → t < piece.start
    → worth_back rest (length rest) t n ≡ worth_back before (length before) t left
passed before rest t left n piece front whole more e later =
    let place : length rest ≡ length before - 10 = omega arith in
    let fewer : n ≡ left - 1 = omega arith in
    rw (place, front, fewer) (back_before before (length before - 10) t (left - 1) (length before - 10) (omega arith) ∙ (backing-next (backing-begin {s = before}) (omega arith) (omega arith) e later).same)

pub returns-in_err-rest : goal.returns-in_err-rest
returns-in_err-rest c = c.from_residual.ensures ∙ backing-short backing-begin (omega arith) (omega (arith, c.in_err-rest.ensures.cases)) ∙ c.loop.invariant

pub returns-then-piece-t : goal.returns-then-piece-t
returns-then-piece-t c =
    let split = c.in_ok-rest.ensures.cases in
    ap Some (to_z-of_z {w = w64} {z = c.line_at.result} (search rules) ∙ c.line_at.ensures)
    ∙ backing-served backing-begin (omega arith) (omega (arith, split)) (c.piece_of-piece.ensures ∙ rw split.1 (piece_behind _ _)) (omega arith) ∙ c.loop.invariant

pub loop-preserved : goal.loop-preserved
loop-preserved c =
    let split = c.in_ok-rest.ensures.cases in
    passed _ _ _ _ _ _ split.0 split.2 (omega arith) (c.piece_of-piece.ensures ∙ rw split.1 (piece_behind _ _)) (omega arith) ∙ c.loop.invariant

pub returns : goal.returns
returns c = backing-none backing-begin (omega arith) ∙ c.loop.invariant
