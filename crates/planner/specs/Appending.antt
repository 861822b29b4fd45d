-- The loop that writes parts into an array, and that an array filled from its start stays so.
use Rattle.std.specs.Prelude.{◌≡◌, List, [], ◌∷◌, ◌++◌, ℕ, suc, ◌+◌, ◌<◌, ◌≤◌, length, get_or, set, drop}
use Rattle.std.proofs.Common.{sym, ◌∙◌, drop_of_length-le, drop-cons}
use Rattle.std.proofs.Math.Path.{ap}
use Rattle.std.proofs.Math.Numerals.{add-one}
use native.Mathlib.Omega.{arith}
use Rattle.laws.specs.Fill.{Pushing, push-next}
use Rattle.gus.specs.declared.Part.{Part}
use Rattle.planner.specs.Applied.{no_part}
use Rattle.planner.specs.Appended.{appended}

-- The loop's whole invariant: i parts are written, and with those left the array is as with all.
pub record Appending (array₀ : List Part) (place : ℕ) (ps array : List Part) (i : ℕ) : Type 0 where
  pub rest : appended array (place + i) (drop i ps) ≡ appended array₀ place ps

module _ {array₀ ps : List Part} {place : ℕ} where
  pub append-begin : Appending array₀ place ps array₀ 0
  append-begin = let e : place + 0 ≡ place = omega arith in record { rest = rw e }

  module _ {array : List Part} {i : ℕ} (inv : Appending array₀ place ps array i) where
    pub append-next : {p : Part} → i < length ps → p ≡ get_or ps i no_part → Appending array₀ place ps (set array (place + i) p) (i + 1)
    unfolding appended
    append-next {p} h e =
        let a : place + (i + 1) ≡ place + i + 1 = omega arith in
        record { rest = rw (a, add-one i, e) (ap (appended array (place + i)) (sym (drop-cons ps i no_part h)) ∙ inv.rest) }

    pub append-ended : length ps ≤ i → array ≡ appended array₀ place ps
    unfolding appended
    append-ended h = ap (appended array (place + i)) (sym (drop_of_length-le ps h)) ∙ inv.rest

-- parts appended to what is written of a list are the list's next
pub appended-pushing : {n : ℕ} {z : Part} {whole rest a : List Part} {k : ℕ} (ps : List Part) → Pushing n z whole (ps ++ rest) a k → k + length ps ≤ n → Pushing n z whole rest (appended a k ps) (k + length ps)
unfolding appended
appended-pushing {k = k} [] inv h = let e : k + 0 ≡ k = omega arith in rw e inv
appended-pushing {a = a} {k = k} (p ∷ ps) inv h =
    let e : k + suc (length ps) ≡ k + 1 + length ps = omega arith in
    rw e (appended-pushing {a = set a k p} ps (push-next inv (omega arith)) (omega arith))
