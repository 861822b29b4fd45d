-- What each public call promises leaves one result and one content of what is lent to it: stated over its own contract, as the check reads it.
use mathlib.Core.Path.{◌≡◌, refl, sym, ◌∙◌}
use seplogic.Ra.Ura.{Ura}
use base.Logic.{SProp}
use prog.Memory.{Memory}
use prog.Routine.{Routine}
use types.Logic.{Logic}
use contract.Lifetimes.{Lfts}
use contract.Monad.{Fun, fact}
use denote.Triple.Clauses.{AtExit}
use denote.Triple.Entry.{Args}
use Rattle.laws.specs.Only.{Only, SameOut}
use Rattle.ilhuepatl.specs.declared.row.RowAnswer.{RowAnswer}
use Rattle.std.specs.Prelude.{Result}
use Rattle.cursor.specs.declared.Refusal.{Refusal}
use Rattle.ilhuepatl.specs.Rows.{row_told, row_outcome_of}
use Rattle.ilhuepatl.proofs.calls.plan_bytes.Reads as plan-bytes
use Rattle.ilhuepatl.proofs.calls.ilhuepatl_plan.Reads as ilhuepatl-plan
use Rattle.ilhuepatl.proofs.calls.ilhuepatl_record.Reads as ilhuepatl-record
use Rattle.ilhuepatl.proofs.calls.ilhuepatl_first.Reads as ilhuepatl-first
use Rattle.ilhuepatl.proofs.calls.ilhuepatl_worth.Reads as ilhuepatl-worth
use Rattle.ilhuepatl.specs.contracts.row.plan_row as plan-row
use Rattle.ilhuepatl.proofs.row.plan_parts.Reads as plan-parts

plan-bytes-only : (lifetimes : Lfts 2) → Only (plan-bytes.Post lifetimes)
plan-bytes-only lifetimes a r r' s s' p q = p.0 ∙ sym q.0

ilhuepatl-plan-only : (lifetimes : Lfts 2) → Only (ilhuepatl-plan.Post lifetimes)
ilhuepatl-plan-only lifetimes a r r' s s' p q = p.0 ∙ sym q.0

ilhuepatl-record-only : (lifetimes : Lfts 1) → Only (ilhuepatl-record.Post lifetimes)
ilhuepatl-record-only lifetimes a r r' s s' p q = p ∙ sym q

ilhuepatl-first-only : (lifetimes : Lfts 1) → Only (ilhuepatl-first.Post lifetimes)
ilhuepatl-first-only lifetimes a r r' s s' p q = p ∙ sym q

ilhuepatl-worth-only : (lifetimes : Lfts 1) → Only (ilhuepatl-worth.Post lifetimes)
ilhuepatl-worth-only lifetimes a r r' s s' p q = p ∙ sym q

-- what `plan_row` promises; `plan-row-says`: its contract says just this
abbrev RowPost : (lifetimes : Lfts 2) → Args plan-row.signature lifetimes → Result RowAnswer Refusal → AtExit plan-row.ended lifetimes → Type 0
RowPost lifetimes a r s = let o = row_outcome_of a.0.now a.1.0.now in (r ≡ row_told o.answer) × (s.1.0.now ≡ o.row)

plan-row-says : {M : Type 1} {𝓤 : Ura M} (𝓛 : Logic 𝓤) (mem : Memory → SProp 𝓤) (run : Routine → Fun 𝓤) (lifetimes : Lfts 2) (a : Args plan-row.signature lifetimes) (r : Result RowAnswer Refusal) (s : AtExit plan-row.ended lifetimes)
    → (plan-row.clauses 𝓛 mem run lifetimes a).ensures tt r s ≡ fact 𝓤 (RowPost lifetimes a r s)
plan-row-says 𝓛 mem run lifetimes a r s = refl

plan-row-only : (lifetimes : Lfts 2) → Only (RowPost lifetimes)
plan-row-only lifetimes a r r' s s' p q = p.0 ∙ sym q.0

plan-parts-only : (lifetimes : Lfts 1) → Only (plan-parts.Post lifetimes)
plan-parts-only lifetimes a r r' s s' p q = λ i. record { answer = (p.0 ∙ sym q.0) i; parts = (p.1 ∙ sym q.1) i }

plan-bytes-out : (lifetimes : Lfts 2) → SameOut (λ s. s.1.0.now) (plan-bytes.Post lifetimes)
plan-bytes-out lifetimes a r r' s s' p q = p.1 ∙ sym q.1

ilhuepatl-plan-out : (lifetimes : Lfts 2) → SameOut (λ s. s.1.0.now) (ilhuepatl-plan.Post lifetimes)
ilhuepatl-plan-out lifetimes a r r' s s' p q = p.1 ∙ sym q.1

plan-row-row : (lifetimes : Lfts 2) → SameOut (λ s. s.1.0.now) (RowPost lifetimes)
plan-row-row lifetimes a r r' s s' p q = p.1 ∙ sym q.1
