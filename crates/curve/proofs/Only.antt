-- What each public function promises leaves one result: stated over its own contract, as the check reads it.
use mathlib.Core.Path.{sym, ◌∙◌}
use contract.Lifetimes.{Lfts}
use Rattle.laws.specs.Only.{Only}
use Rattle.curve.proofs.line_at.Reads as line_at_lem
use Rattle.curve.proofs.fields.piece_from.Reads as piece-from
use Rattle.curve.proofs.question.worth_at.Reads as worth-at
use Rattle.curve.proofs.question.worth_before.Reads as worth-before
use Rattle.curve.proofs.denser.Reads as denser

line-at-only : Only (line_at_lem.Post tt)
line-at-only a r r' s s' p q = p ∙ sym q

piece-from-only : Only (piece-from.Post tt)
piece-from-only a r r' s s' p q = p ∙ sym q

worth-at-only : (lifetimes : Lfts 1) → Only (worth-at.Post lifetimes)
worth-at-only lifetimes a r r' s s' p q = p ∙ sym q

worth-before-only : (lifetimes : Lfts 1) → Only (worth-before.Post lifetimes)
worth-before-only lifetimes a r r' s s' p q = p ∙ sym q

denser-only : Only (denser.Post tt)
denser-only a r r' s s' p q = p ∙ sym q
