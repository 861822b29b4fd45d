-- The ways a call that writes a text ends: no room, or the text that was written; and that what it answers lies in the output.
use Rattle.std.specs.Prelude.{◌≡◌, refl, Bool, ℕ, ◌<◌, ◌≤◌}
use Rattle.std.proofs.Math.Path.{sym, ap}
use Rattle.std.proofs.Common.{◌∙◌}
use Rattle.std.proofs.Math.Bool.{true, false}
use mathlib.Core.List.{List}
use native.Mathlib.Omega.{arith}
use Rattle.std.proofs.Math.Dec.{ltb}
use Rattle.std.proofs.Math.ListN.{length}
use borrow.Author.Tests.{lt-ltb, le-ltb, ltb-false}
use Rattle.laws.specs.Stores.{over, over-sets}
use Rattle.cursor.specs.Refusal.{ROOM}
use Rattle.text.specs.Listed.{Listed}
use Rattle.text.specs.Room.{TextOutcome, listed_as, outcome_with}
use Rattle.text.specs.Wrote.{Wrote}

-- a text that is never longer than `least` has room
pub room : {least size : ℕ} {text put : List ℕ} → length text ≤ least → least ≤ size → put ≡ text → length put ≤ size
room short h e = omega (arith, ap length e)

module _ (least : ℕ) (text out : List ℕ) where
  abbrev ways : Bool → TextOutcome
  ways narrow = elim narrow as (λ _. TextOutcome) [ true ↦ record { listed = listed_as ROOM 0; out = out } | false ↦ record { listed = listed_as 0 (length text); out = over text out } ]

  pub no_room : {l : Listed} → length out < least → l ≡ listed_as ROOM 0 → record { listed = l; out = out } ≡ outcome_with least text out
  unfolding outcome_with
  no_room h e = ap (λ (x : Listed). record { listed = x; out = out }) e ∙ sym (ap ways (lt-ltb (length out) least h))

  -- of a text that is never longer than that
  module _ (short : length text ≤ least) {after : List ℕ} {l : Listed} where
    pub written : least ≤ length out → {put : List ℕ} {n : ℕ} → put ≡ text → Wrote out 0 put after n → l ≡ listed_as 0 n → record { listed = l; out = after } ≡ outcome_with least text out
    unfolding outcome_with
    written h {put} {n} t w e =
        let long : n ≡ length text = omega (arith, w.end, ap length t) in
        let stands : after ≡ over text out = w.stored ∙ over-sets put out (room short h t) ∙ ap (λ (x : List ℕ). over x out) t in
        (λ i. record { listed = (e ∙ ap (listed_as 0) long) i; out = stands i }) ∙ sym (ap ways (le-ltb (length out) least h))

    -- whatever the call answers, its text lies in the output
    pub listed-within : record { listed = l; out = after } ≡ outcome_with least text out → l.length ≤ length out
    unfolding outcome_with
    listed-within e = omega (arith, ap (λ (o : TextOutcome). o.listed.length) e, by (ltb (length out) least) refl)
      where
        by : (narrow : Bool) → ltb (length out) least ≡ narrow → (ways narrow).listed.length ≤ length out
        by true q = omega arith
        by false q = omega (arith, ltb-false (length out) least q)
