-- How long each text is at most, whatever the bytes of the book: 4,096 bytes are always room enough for the listing, 32 for the first part's.
use Rattle.std.specs.Prelude.{◌≡◌, refl, Bool, true, false, List, [], ◌∷◌, ℕ, ◌+◌, ◌*◌, ◌-◌, ◌<◌, ◌≤◌, ℤ, nat_abs, replicate}
use Rattle.std.proofs.Common.{ap, inl, inr, arith}
use Rattle.std.proofs.Math.ListN.{length, length-append}
use Rattle.std.proofs.Math.Seq.{take-append_seam}
use Rattle.laws.specs.Fill.{padded}
use Rattle.laws.specs.Signed.{up, dn, abs_is}
use Rattle.job.specs.declared.Job.{Job}
use Rattle.book.specs.Format.{book_of}
use Rattle.gus.specs.declared.Part.{Part}
use Rattle.gus.specs.Victims.{knot_of}
use Rattle.gus.specs.Plan.{answer_to}
use Rattle.laws.specs.Among.{Among}
use Rattle.invariants.specs.Replay.{Replay, over, then, lasts}
use Rattle.invariants.proofs.Victims.{victims-on}
use Rattle.opening.specs.Planned.{view_from, answer_from}
use Rattle.opening.proofs.Opened.{accepted-opened}
use Rattle.planner.specs.LaidOut.{empty_part}
use Rattle.planner.specs.Planned.{laid_plan, refused_plan}
use Rattle.planner.specs.First.{first_in, first_of, laid-first}
use Rattle.text.specs.Decimal.{ascii}
use Rattle.text.specs.Lines.{victim_words, victims_line, mode_word, part_line, part_lines, close_line, refused_line, unless_refused}
use Rattle.text.specs.Listing.{plan_text, listing_of}
use Rattle.text.specs.First.{nothing_line, first_line, first_listing_of}
use Rattle.text.specs.Digits.{decimal-short}
use Rattle.text.specs.Signs.{from_zero}
use Rattle.text.specs.Ways.{planned-ways}
use Rattle.text.specs.Texts.{line-alone}

-- ---- the lines, from how far their numbers go

words-short : (vs : List ℕ) → ((x : ℕ) → Among x vs → x < 32) → length (victim_words vs) ≤ 3 * length vs
unfolding victim_words ascii
words-short [] h = omega arith
words-short (v ∷ vs) h =
    let two = decimal-short 1 v (omega (arith, h v (inl refl))) in
    let rest = words-short vs (λ x a. h x (inr a)) in
    simp length-append (omega arith)

victims-short : (vs : List ℕ) → length vs ≤ 32 → ((x : ℕ) → Among x vs → x < 32) → length (victims_line vs) ≤ 107
unfolding victims_line ascii
victims-short vs l h =
    let two = decimal-short 1 (length vs) (omega arith) in
    let words = words-short vs h in
    simp length-append (omega arith)

mode-three : (rolling : Bool) → length (mode_word rolling) ≡ 3
unfolding mode_word ascii
mode-three true = refl
mode-three false = refl

part-short : (t : ℕ) (p : Part) → p.job < 32 → p.time < 10000000 → t < 10000000000 → length (part_line t p) ≤ 32
unfolding part_line ascii
part-short t p a b c =
    let job = decimal-short 1 p.job (omega arith) in
    let mode = mode-three p.rolling in
    let time = decimal-short 6 p.time b in
    let start = decimal-short 9 t c in
    simp length-append (omega arith)

parts-short : {js : List Job} {ps : List Part} → Replay js ps → (t : ℕ) → lasts ps < 10000000 → t + lasts ps < 10000000000 → length (part_lines t ps) ≤ 32 * length ps
unfolding part_lines lasts
parts-short over t h k = omega arith
parts-short (then {p = p} {ps = ps} g r) t h k =
    omega (arith, length-append (part_line t p) (part_lines (t + p.time) ps), part-short t p g.alive.there (omega arith) (omega arith), parts-short r (t + p.time) (omega arith) (omega arith))

-- the first part's line, or `nothing`
first_short : {js : List Job} {ps : List Part} → Replay js ps → (now : ℕ) → lasts ps < 10000000 → now < 10000000000 → length (first_line (first_of ps).some (first_of ps).part now) ≤ 32
unfolding first_of first_line nothing_line ascii lasts
first_short over now h k = omega arith
first_short (then {p = p} g r) now h k = part-short now p g.alive.there (omega arith) k

close-short : (total : ℤ) (end rounds : ℕ) → dn total ≡ 0 → up total ≤ 32000000 → end < 10000000000 → rounds ≤ 32 → length (close_line total end rounds) ≤ 40
unfolding close_line ascii
close-short total end rounds a b c d =
    let e = ap length (from_zero total (omega arith)) in
    let sum = decimal-short 7 (nat_abs total) (omega (arith, abs_is total)) in
    let moment = decimal-short 9 end c in
    let count = decimal-short 1 rounds (omega arith) in
    simp length-append (omega arith)

refused-short : (number place : ℕ) → number ≤ 10 → place ≤ 8201 → length (refused_line number place) ≤ 19
unfolding refused_line ascii
refused-short number place a b =
    let two = decimal-short 1 number (omega arith) in
    let four = decimal-short 3 place (omega arith) in
    simp length-append (omega arith)

-- ---- a plan's texts, from what its parts may be

-- a refusal's line, where the text is allowed more
refused-fits : (most number place : ℕ) (text : List ℕ) → 19 ≤ most → 0 < number → number ≤ 10 → place ≤ 8201 → length (unless_refused number place text) ≤ most
refused-fits most number place text h some a b = omega (arith, refused-short number place a b, ap length (line-alone number place text some))

module _ (s : List ℕ) (e : (book_of s).number ≡ 0) (none : 32 ≤ knot_of (view_from (book_of s)) (book_of s).now) where
  victims-below : (x : ℕ) → Among x (answer_from (book_of s)).victims → x < 32
  unfolding answer_to
  victims-below x a = (victims-on (view_from (book_of s)) (book_of s).now none x a).0.node

  lasting : lasts (answer_from (book_of s)).plan.parts ≤ 6291360
  lasting = let p = (accepted-opened s e).planned none in omega (arith, p.replayed.end, p.end)

  plan-fits : length (plan_text (laid_plan (answer_from (book_of s))) (book_of s).now) ≤ 4096
  unfolding plan_text laid_plan padded
  plan-fits =
      let a = answer_from (book_of s) in
      let vs = a.victims in
      let ps = a.plan.parts in
      let o = accepted-opened s e in
      let p = o.planned none in
      let victims = victims-short vs p.victims victims-below in
      let parts = parts-short p.replayed.replay (book_of s).now (omega (arith, lasting)) (omega (arith, lasting, o.now)) in
      let close = close-short a.plan.total a.plan.end a.plan.rounds p.total_some p.total_most (omega (arith, p.end, o.now)) p.rounds_most in
      rw (take-append_seam vs (replicate (32 - length vs) 0), take-append_seam ps (replicate (96 - length ps) empty_part))
      (simp length-append (omega (arith, p.parts)))

  line-fits : length (first_line (first_in (laid_plan (answer_from (book_of s)))).some (first_in (laid_plan (answer_from (book_of s)))).part (book_of s).now) ≤ 32
  line-fits =
      let o = accepted-opened s e in
      rw (laid-first (answer_from (book_of s)))
      (first_short (o.planned none).replayed.replay (book_of s).now (omega (arith, lasting)) (omega (arith, o.now)))

-- THE LISTING FITS
pub listing-fits : (s : List ℕ) → length (listing_of s) ≤ 4096
unfolding listing_of refused_plan laid_plan unless_refused
listing-fits s =
    planned-ways s (λ p. length (unless_refused p.number p.place (plan_text p (book_of s).now)) ≤ 4096)
    (λ number place. refused-fits 4096 number place _ (omega arith))
    (plan-fits s)

-- THE FIRST PART'S TEXT FITS
pub first_fits : (s : List ℕ) → length (first_listing_of s) ≤ 32
unfolding first_listing_of refused_plan laid_plan first_in unless_refused
first_fits s =
    planned-ways s (λ p. length (unless_refused (first_in p).number (first_in p).place (first_line (first_in p).some (first_in p).part (book_of s).now)) ≤ 32)
    (λ number place. refused-fits 32 number place _ (omega arith))
    (line-fits s)
