-- `text::listing::moment_of` meets its contract: a header that is refused has moment 0.
use Prim.Native.Nat.{ℕ}
use native.Mathlib.Omega.{arith}
use mathlib.Core.Path.{◌≡◌, ap, sym, ◌∙◌}
use mathlib.Core.List.{List}
use Rattle.std.proofs.lemmas.Result.{MatchResult-at_ok, MatchResult-at_err}
use Rattle.cursor.specs.declared.Refusal.{Refusal}
use Rattle.cursor.specs.Reading.{Reading, HeaderRead}
use Rattle.cursor.specs.Header.{header_of}
use Rattle.cursor.specs.Answer.{Refused}
use Rattle.cursor.proofs.Heading.{header-refuses}
use Rattle.text.proofs.listing.moment_of.Goals as goal

refused-now : (s : List ℕ) {d : Refusal} → Refused (header_of s).reading d → (header_of s).now ≡ 0
unfolding header_of
refused-now s met = ap (λ (r : Reading). r.value) met.0

pub returns-in-Ok : goal.returns-in-Ok
returns-in-Ok c =
    let s = c.args.s.now in
    let known = MatchResult-at_ok _ _ _ (sym c.header.ensures.is ∙ c.in-Ok.is) (header-refuses s) in
    record { is = sym (ap (λ (h : HeaderRead). h.now) known); soon = (MatchResult-at_ok _ _ _ c.in-Ok.is c.header.ensures.small).1 }

pub returns-in-Err : goal.returns-in-Err
returns-in-Err c =
    let s = c.args.s.now in
    record { is = sym (refused-now s (MatchResult-at_err _ _ _ (sym c.header.ensures.is ∙ c.in-Err.is) (header-refuses s))); soon = omega arith }
