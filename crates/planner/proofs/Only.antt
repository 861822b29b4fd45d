-- What each public function promises leaves one result: stated over its own contract, as the check reads it.
use mathlib.Core.Path.{sym, ◌∙◌}
use contract.Lifetimes.{Lfts}
use Rattle.laws.specs.Only.{Only}
use Rattle.planner.proofs.plan.plan.Reads as plan
use Rattle.planner.proofs.first.first_part.Reads as first_part

plan-only : (lifetimes : Lfts 1) → Only (plan.Post lifetimes)
plan-only lifetimes a r r' s s' p q = p ∙ sym q

first-part-only : (lifetimes : Lfts 1) → Only (first_part.Post lifetimes)
first-part-only lifetimes a r r' s s' p q = p ∙ sym q
