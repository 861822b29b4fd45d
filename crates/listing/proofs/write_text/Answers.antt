-- `listing::write_text`: the text that is asked for lies in the output that it is written into.
use Prim.Native.Nat.{ℕ, ◌≤◌}
use native.Mathlib.Omega.{arith}
use mathlib.Core.Path.{◌≡◌, refl, ap, ◌∙◌}
use mathlib.Core.List.{List}
use Rattle.std.specs.Prelude.{Result, length}
use Rattle.std.specs.Result.{result_unwrap_or}
use Rattle.cursor.specs.declared.Refusal.{Refusal}
use Rattle.text.specs.Listed.{listed_told}
use Rattle.text.specs.Room.{TextOutcome, outcome_with}
use Rattle.text.specs.Listing.{listing_of}
use Rattle.text.specs.First.{first_listing_of}
use Rattle.text.specs.Fits.{listing-fits, first_fits}
use Rattle.text.specs.Outcomes.{listed-within}
use Rattle.text.proofs.Told.{length-told}
use Rattle.listing.proofs.write_text.Goals as goal

-- how many bytes of the output the text has
module _ (least : ℕ) (text out : List ℕ) {r : Result ℕ Refusal} {n : ℕ} {after : List ℕ} (told : (r ≡ listed_told (outcome_with least text out).listed) × (after ≡ (outcome_with least text out).out)) (is : n ≡ result_unwrap_or r 0) where
  long : n ≡ (outcome_with least text out).listed.length
  long = is ∙ ap (λ (x : Result ℕ Refusal). result_unwrap_or x 0) told.0 ∙ length-told least text out

  value : (n ≡ (outcome_with least text out).listed.length) × (after ≡ (outcome_with least text out).out)
  value = (long, told.1)

  within : length text ≤ least → length out ≡ length after → n ≤ length after
  within short same = omega (arith, long, listed-within least text out short {after = (outcome_with least text out).out} {l = (outcome_with least text out).listed} refl)

pub returns-then-first-clause-value : goal.returns-then-first-clause-value
returns-then-first-clause-value c = rw c.if-first.true (value 32 (first_listing_of c.args.book.now) c.args.out.now c.write_first.ensures c.unwrap_or.ensures)

pub returns-then-first-clause-within : goal.returns-then-first-clause-within
returns-then-first-clause-within c = within 32 (first_listing_of c.args.book.now) c.args.out.now c.write_first.ensures c.unwrap_or.ensures (first_fits _) (omega arith)

pub returns-else-first-clause-value : goal.returns-else-first-clause-value
returns-else-first-clause-value c = rw c.if-first.false (value 4096 (listing_of c.args.book.now) c.args.out.now c.write_listing.ensures c.unwrap_or-else-first.ensures)

pub returns-else-first-clause-within : goal.returns-else-first-clause-within
returns-else-first-clause-within c = within 4096 (listing_of c.args.book.now) c.args.out.now c.write_listing.ensures c.unwrap_or-else-first.ensures (listing-fits _) (omega arith)
