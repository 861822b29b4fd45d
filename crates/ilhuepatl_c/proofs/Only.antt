-- What each exported call promises leaves one result and one content of what is lent to it: stated over its own contract, as the check reads it.
use mathlib.Core.Path.{sym, ◌∙◌}
use contract.Lifetimes.{Lfts}
use Rattle.laws.specs.Only.{Only, SameOut}
use Rattle.ilhuepatl_c.proofs.ilhuepatl_plan.Reads as ilhuepatl-plan
use Rattle.ilhuepatl_c.proofs.ilhuepatl_record.Reads as ilhuepatl-record
use Rattle.ilhuepatl_c.proofs.ilhuepatl_first.Reads as ilhuepatl-first
use Rattle.ilhuepatl_c.proofs.ilhuepatl_worth.Reads as ilhuepatl-worth

ilhuepatl-plan-only : (lifetimes : Lfts 2) → Only (ilhuepatl-plan.Post lifetimes)
ilhuepatl-plan-only lifetimes a r r' s s' p q = p.0 ∙ sym q.0

ilhuepatl-plan-out : (lifetimes : Lfts 2) → SameOut (λ s. s.1.0.now) (ilhuepatl-plan.Post lifetimes)
ilhuepatl-plan-out lifetimes a r r' s s' p q = p.1 ∙ sym q.1

ilhuepatl-record-only : (lifetimes : Lfts 1) → Only (ilhuepatl-record.Post lifetimes)
ilhuepatl-record-only lifetimes a r r' s s' p q = p ∙ sym q

ilhuepatl-first-only : (lifetimes : Lfts 1) → Only (ilhuepatl-first.Post lifetimes)
ilhuepatl-first-only lifetimes a r r' s s' p q = p ∙ sym q

ilhuepatl-worth-only : (lifetimes : Lfts 1) → Only (ilhuepatl-worth.Post lifetimes)
ilhuepatl-worth-only lifetimes a r r' s s' p q = p ∙ sym q
