-- The first part's text beside the listing: a refused book has one text, and otherwise the line is the listing's own, right after the victims'; `nothing` stands for a plan without a part.
use Rattle.std.specs.Prelude.{◌≡◌, refl, List, ◌++◌, ℕ, ◌+◌, ◌<◌, ◌≤◌, length, take, drop, get_or}
use Rattle.std.proofs.Common.{sym, ap, ◌∙◌, append_assoc, arith, length-append, lt-ltb, le-ltb}
use Rattle.laws.specs.Fill.{padded}
use Rattle.book.specs.Format.{book_of}
use Rattle.planner.specs.Plans.{Planned}
use Rattle.planner.specs.LaidOut.{empty_part}
use Rattle.planner.specs.Planned.{laid_plan, refused_plan, planned_of}
use Rattle.planner.specs.First.{first_in}
use Rattle.text.specs.Lines.{victims_line, part_lines, close_line}
use Rattle.text.specs.Listing.{plan_text, listing_of}
use Rattle.text.specs.First.{nothing_line, first_line, first_listing_of}
use Rattle.text.specs.Loops.{left-next}
use Rattle.text.specs.Ways.{planned-ways}
use Rattle.text.specs.Texts.{text-whole, refused-listing, refused-first, line-some, line-none}

-- a refused book prints the same line for both
pub refused-same : (s : List ℕ) → 0 < (planned_of s).number → first_listing_of s ≡ listing_of s
unfolding first_in
refused-same s h = sym (refused-first s refl h) ∙ refused-listing s refl h

-- what a listing has after its first part's line: the later parts', and the last line
abbrev pub later_text : Planned → ℕ → List ℕ
later_text p now = part_lines (now + (get_or p.parts 0 empty_part).time) (drop 1 (take p.count p.parts)) ++ close_line p.total p.end p.rounds

-- no plan counts more parts than it has places
filled : (s : List ℕ) → (planned_of s).count ≤ length (planned_of s).parts
unfolding refused_plan laid_plan padded
filled s = planned-ways s (λ p. p.count ≤ length p.parts) (λ number place some a b. omega arith) (λ e none. simp length-append (omega arith))

line-among : (p : Planned) (now : ℕ) → 0 < p.count → p.count ≤ length p.parts → plan_text p now ≡ victims_line (take p.victimcount p.victims) ++ first_line (first_in p).some (first_in p).part now ++ later_text p now
unfolding plan_text part_lines first_in
line-among p now some long = rw (left-next p.parts empty_part p.count 0 some long, line-some _ (get_or p.parts 0 empty_part) now (lt-ltb 0 p.count some)) (simp append_assoc)

-- THE LINE IS THE LISTING'S, of every plan that has a part
pub line_same : (s : List ℕ) → (planned_of s).number ≤ 0 → 0 < (planned_of s).count
    → listing_of s ≡ victims_line (take (planned_of s).victimcount (planned_of s).victims) ++ first_listing_of s ++ later_text (planned_of s) (book_of s).now
unfolding listing_of first_listing_of first_in
line_same s h some =
    let p = planned_of s in
    let now = (book_of s).now in
    let victims = victims_line (take p.victimcount p.victims) in
    sym (text-whole _ _ _ h)
    ∙ line-among p now some (filled s)
    ∙ ap (λ (line : List ℕ). victims ++ line ++ later_text p now) (text-whole _ _ _ h)

pub nothing-alone : (s : List ℕ) → (planned_of s).number ≤ 0 → (planned_of s).count ≤ 0 → first_listing_of s ≡ nothing_line
unfolding first_listing_of first_in
nothing-alone s h none = sym (text-whole _ _ _ h) ∙ line-none _ _ _ (le-ltb 0 (planned_of s).count none)
