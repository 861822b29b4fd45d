-- A list of holds by place: where no resource stands at two places, a place is found by its resource.
use Rattle.std.specs.Prelude.{◌≡◌, refl, ◌≢◌, true, false, List, [], ◌∷◌, ℕ, zero, suc, ◌<◌, length, get_or}
use Rattle.std.proofs.Common.{sym, ap, ◌∙◌, true≢false, not-suc-le-zero, le_of_suc-le-suc, arith}
use Rattle.std.proofs.Math.Decide.{ℕ_discrete}
use Rattle.book.specs.declared.Entry.{Entry}
use Rattle.book.specs.Format.{no_entry}
use Rattle.replay.specs.View.{lists, hold_on}
use Rattle.replay.specs.Lists.{Distinct, Some, lists-here, lists-on, hold-here, hold-on}

abbrev at : List Entry → ℕ → Entry
at es k = get_or es k no_entry

lists_at : (es : List Entry) (k : ℕ) → k < length es → lists es (at es k).resource ≡ true
lists_at [] k l = absurd (not-suc-le-zero l)
lists_at (e ∷ es) zero l = lists-here e es e.resource refl
lists_at (e ∷ es) (suc k) l = elim (ℕ_discrete e.resource (at es k).resource) [
  | yes q ↦ lists-here e es (at es k).resource q
  | no q ↦ lists-on e es (at es k).resource q ∙ lists_at es k (le_of_suc-le-suc l)
]

pub unlisted-all : (es : List Entry) (r : ℕ) → ((k : ℕ) → k < length es → (at es k).resource ≡ r → ⊥) → lists es r ≡ false
unfolding lists
unlisted-all [] r none = refl
unlisted-all (e ∷ es) r none = lists-on e es r (none 0 (omega arith)) ∙ unlisted-all es r (λ k l. none (suc k) (omega arith))

pub distinct-all : (es : List Entry) → ((k n : ℕ) → k < length es → n < length es → (at es k).resource ≡ (at es n).resource → k ≡ n) → Distinct es
distinct-all [] once = tt
distinct-all (e ∷ es) once = (
  unlisted-all es e.resource (λ k l q. absurd (omega (arith, once (suc k) 0 (omega arith) (omega arith) q))),
  distinct-all es (λ k n l h q. omega (arith, once (suc k) (suc n) (omega arith) (omega arith) q)),
)

pub some-all : (es : List Entry) → ((k : ℕ) → k < length es → (0 < (at es k).hold) × (0 < (at es k).rollback)) → Some es
some-all [] each = tt
some-all (e ∷ es) each = ((each 0 (omega arith)).0, (each 0 (omega arith)).1, some-all es (λ k l. each (suc k) (omega arith)))

pub hold_at : (es : List Entry) (k : ℕ) → Distinct es → k < length es → hold_on es (at es k).resource ≡ at es k
hold_at [] k a l = absurd (not-suc-le-zero l)
hold_at (e ∷ es) zero a l = hold-here e es e.resource refl
hold_at (e ∷ es) (suc k) a l = hold-on e es (at es k).resource other ∙ hold_at es k a.1 (le_of_suc-le-suc l)
  where
    other : e.resource ≢ (at es k).resource
    other q = true≢false (sym (lists_at es k (le_of_suc-le-suc l)) ∙ ap (lists es) (sym q) ∙ a.0)
