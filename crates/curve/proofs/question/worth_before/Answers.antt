-- `curve::question::worth_before` meets its contract.
use Prim.Native.Nat.{ℕ, ◌+◌, ◌*◌}
use mathlib.Core.List.{List}
use mathlib.Core.Path.{◌≡◌, sym, ap, ◌∙◌}
use native.Mathlib.Omega.{arith}
use lib.ListN.{take, drop}
use Rattle.std.specs.List.{slice_index}
use Rattle.cursor.specs.Field.{value_at}
use Rattle.curve.specs.Before.{before-cut, before-after, before-until}
use Rattle.curve.proofs.Bytes.{end_behind, back_before}
use Rattle.curve.proofs.question.worth_before.Goals as goal

-- what is read is the field at the place where the bytes are split
read : (s after chunk : List ℕ) (end n : ℕ) → after ≡ drop end s → chunk ≡ take 4 after
    → n ≡ slice_index chunk 0 * 16777216 + slice_index chunk 1 * 65536 + slice_index chunk 2 * 256 + slice_index chunk 3 → n ≡ value_at s end 4
unfolding value_at
read s after chunk end n back first e = e ∙ ap (λ (x : List ℕ). value_at x 0 4) (first ∙ ap (take 4) back) ∙ end_behind s end

pub returns-in_err-before : goal.returns-in_err-before
returns-in_err-before c = c.from_residual.ensures ∙ sym (before-cut _ _ _ _ (omega (arith, c.in_err-before.ensures.cases)))

pub returns-in_err-first_chunk : goal.returns-in_err-first_chunk
returns-in_err-first_chunk c =
    c.from_residual-in_err-first_chunk.ensures ∙ sym (before-cut _ _ _ _ (omega (arith, c.in_ok-before.ensures.cases, c.in_err-first_chunk.ensures.cases)))

pub returns-then-until-t : goal.returns-then-until-t
returns-then-until-t c =
    let split = c.in_ok-before.ensures.cases in
    let chunk = c.in_ok-first_chunk.ensures.cases in
    sym (before-after _ _ _ _ (omega (arith, split, chunk.enough)) (omega (arith, read c.args.s.now _ _ c.args.end _ split.2 chunk.same c.from_be_bytes-until.ensures)))

pub returns : goal.returns
returns c =
    let split = c.in_ok-before.ensures.cases in
    let chunk = c.in_ok-first_chunk.ensures.cases in
    c.worth_back.ensures
    ∙ rw (split.3, split.1) (back_before _ c.args.end c.args.t c.args.pieces c.args.end (omega arith))
    ∙ sym (before-until _ _ _ _ (omega (arith, split, chunk.enough)) (omega (arith, read c.args.s.now _ _ c.args.end _ split.2 chunk.same c.from_be_bytes-until.ensures)))
