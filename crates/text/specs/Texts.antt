-- Which text a book has: a refusal's line alone, or a plan's, told by what the planner answers and by the header's moment.
use Rattle.std.specs.Prelude.{◌≡◌, refl, Bool, true, false, cond, List, ℕ, ◌<◌, ◌≤◌, ltb}
use Rattle.std.proofs.Math.Path.{sym, ap}
use Rattle.std.proofs.Common.{◌∙◌, arith, lt-ltb, le-ltb, ltb-true}
use Rattle.cursor.specs.Reading.{Reading, HeaderRead}
use Rattle.cursor.specs.Header.{header_of}
use Rattle.book.specs.Read.{Records}
use Rattle.book.specs.Format.{records_read, tail_read, accepted_book, refused_book, book_of}
use Rattle.gus.specs.declared.Part.{Part}
use Rattle.planner.specs.Plans.{Planned, FirstPart}
use Rattle.planner.specs.Planned.{refused_plan, planned_of}
use Rattle.planner.specs.First.{first_in}
use Rattle.text.specs.Lines.{part_line, refused_line, unless_refused}
use Rattle.text.specs.Listing.{plan_text, listing_of}
use Rattle.text.specs.First.{nothing_line, first_line, first_listing_of}
use Rattle.text.specs.Ways.{planned-ways}

-- the moment that a book's header says, with the bound that the code passes on
pub record Moment (s : List ℕ) (t : ℕ) : Type 0 where
  pub is : t ≡ (header_of s).now
  pub soon : t ≤ 2147483647

-- a book that is not refused has its header's moment
accepted-now : (s : List ℕ) → (book_of s).number ≤ 0 → (book_of s).now ≡ (header_of s).now
unfolding book_of refused_book accepted_book
accepted-now s h =
    let top = header_of s in
    let b = records_read s top.jobs top.resources top.reading in
    let last = tail_read s b.reading in
    by top b last (ltb 0 last.number) refl h
  where
    by : (top : HeaderRead) (b : Records) (last : Reading) (x : Bool) → ltb 0 last.number ≡ x → (cond x (refused_book last.number last.place) (accepted_book top b)).number ≤ 0 → (cond x (refused_book last.number last.place) (accepted_book top b)).now ≡ top.now
    by top b last true e l = absurd (omega (arith, ltb-true 0 last.number e))
    by top b last false e l = refl

planned-accepted : (s : List ℕ) → (planned_of s).number ≤ 0 → (book_of s).number ≤ 0
unfolding refused_plan
planned-accepted s = planned-ways s (λ p. p.number ≤ 0 → (book_of s).number ≤ 0) (λ number place some a b l. absurd (omega arith)) (λ e none l. omega arith)

planned-now : (s : List ℕ) → (planned_of s).number ≤ 0 → {t : ℕ} → Moment s t → t ≡ (book_of s).now
planned-now s h m = m.is ∙ sym (accepted-now s (planned-accepted s h))

-- the line alone, or the text
module _ (number place : ℕ) (text : List ℕ) where
  abbrev either : Bool → List ℕ
  either refused = elim refused as (λ _. List ℕ) [ true ↦ refused_line number place | false ↦ text ]

  pub line-alone : 0 < number → refused_line number place ≡ unless_refused number place text
  unfolding unless_refused
  line-alone h = sym (ap either (lt-ltb 0 number h))

  pub text-whole : number ≤ 0 → text ≡ unless_refused number place text
  unfolding unless_refused
  text-whole h = sym (ap either (le-ltb 0 number h))

-- the text of whatever the planner answers, with its refusal and the moment at which it starts
module _ {X : Type 0} (number place : X → ℕ) (text : X → ℕ → List ℕ) (now : ℕ) {x y : X} (e : x ≡ y) where
  abbrev pub printed : X → List ℕ
  printed z = unless_refused (number z) (place z) (text z now)

  refused-text : 0 < number x → refused_line (number x) (place x) ≡ printed y
  refused-text h = line-alone _ _ _ h ∙ ap printed e

  planned-text : number x ≤ 0 → {t : ℕ} → t ≡ now → text x t ≡ printed y
  planned-text h q = ap (text x) q ∙ text-whole _ _ _ h ∙ ap printed e

module _ (s : List ℕ) {p : Planned} (e : p ≡ planned_of s) where
  pub refused-listing : 0 < p.number → refused_line p.number p.place ≡ listing_of s
  unfolding listing_of
  refused-listing h = refused-text (λ (x : Planned). x.number) (λ (x : Planned). x.place) plan_text (book_of s).now e h

  pub planned-listing : p.number ≤ 0 → {t : ℕ} → Moment s t → plan_text p t ≡ listing_of s
  unfolding listing_of
  planned-listing h m =
      let n = ap (λ (x : Planned). x.number) e in
      planned-text (λ (x : Planned). x.number) (λ (x : Planned). x.place) plan_text (book_of s).now e h (planned-now s (omega arith) m)

module _ (s : List ℕ) {f : FirstPart} (e : f ≡ first_in (planned_of s)) where
  abbrev firstly : FirstPart → ℕ → List ℕ
  firstly x now = first_line x.some x.part now

  pub refused-first : 0 < f.number → refused_line f.number f.place ≡ first_listing_of s
  unfolding first_listing_of
  refused-first h = refused-text (λ (x : FirstPart). x.number) (λ (x : FirstPart). x.place) firstly (book_of s).now e h

  pub planned-first : f.number ≤ 0 → {t : ℕ} → Moment s t → first_line f.some f.part t ≡ first_listing_of s
  unfolding first_listing_of first_in
  planned-first h m =
      let n = ap (λ (x : FirstPart). x.number) e in
      planned-text (λ (x : FirstPart). x.number) (λ (x : FirstPart). x.place) firstly (book_of s).now e h (planned-now s (omega arith) m)

-- the part's line, or `nothing`
module _ (some : Bool) (part : Part) (now : ℕ) where
  pub line-some : some ≡ true → first_line some part now ≡ part_line now part
  unfolding first_line
  line-some e = rw e

  pub line-none : some ≡ false → first_line some part now ≡ nothing_line
  unfolding first_line
  line-none e = rw e
