-- What each public call promises leaves one result and one content of what is lent to it: stated over its own contract, as the check reads it.
use mathlib.Core.Path.{sym, ◌∙◌}
use contract.Lifetimes.{Lfts}
use Rattle.laws.specs.Only.{Only, SameOut}
use Rattle.text.proofs.first.write_first.Reads as write-first
use Rattle.text.proofs.listing.write_listing.Reads as write-listing

write-listing-only : (lifetimes : Lfts 2) → Only (write-listing.Post lifetimes)
write-listing-only lifetimes a r r' s s' p q = p.0 ∙ sym q.0

write-listing-out : (lifetimes : Lfts 2) → SameOut (λ s. s.1.0.now) (write-listing.Post lifetimes)
write-listing-out lifetimes a r r' s s' p q = p.1 ∙ sym q.1

write-first-only : (lifetimes : Lfts 2) → Only (write-first.Post lifetimes)
write-first-only lifetimes a r r' s s' p q = p.0 ∙ sym q.0

write-first-out : (lifetimes : Lfts 2) → SameOut (λ s. s.1.0.now) (write-first.Post lifetimes)
write-first-out lifetimes a r r' s s' p q = p.1 ∙ sym q.1
