-- What the writer's methods prove by: where it stands after a text, two texts in one, and the text that std prints of a number.
use Rattle.std.proofs.Common.{◌≡◌, refl, List, [], ◌∷◌, ◌++◌, ℕ, suc, ◌+◌, ◌-◌, ◌/◌, ◌%◌, ◌^◌, ◌<◌, ◌≤◌, Bool, true, false, length, drop, get_or, ltb, ℤ, pos, negsuc, sym, ap, ◌∙◌, arith, lt-ltb, le-ltb, add-one, length-append, drop-cons, drop_of_length-le}
use Rattle.std.proofs.Math.Seq.{take-length}
use Rattle.std.proofs.lemmas.List.Edits.{sets-eq}
use Rattle.std.proofs.lemmas.Slice.{put_mid-paste}
use Rattle.std.proofs.lemmas.Fmt.{decimal_from_appends, length-decimal-le_succ}
use Rattle.std.specs.Fmt.{signed_decimal}
use Rattle.std.specs.Fmt as fmt
use borrow.Rule.Slice.PartMut.{put_mid}
use mir.Syntax.{w8, w32}
use mir.Val.{Fits, SFits}
use mir.Facts.{to_z-of_z}
use Rattle.laws.specs.Signed.{abs-fits}
use Rattle.gus.specs.declared.Part.{Part}
use Rattle.planner.specs.LaidOut.{empty_part}
use Rattle.text.specs.declared.word.Writer.{Writer}
use Rattle.text.specs.Decimal.{ascii, digits, decimal, signed}
use Rattle.text.specs.Lines.{victim_words, part_line, part_lines}
use Rattle.text.specs.Writer.{Room, after, after_at, after_length, after_then, after_nothing}

-- a loop that writes a row element by element: what is still to be written brings the writer where the whole row does
pub record Goes (start now : Writer) (whole rest : List ℕ) : Type 0 where
  pub there : after now rest ≡ after start whole

pub goes_room : {start now : Writer} {whole : List ℕ} (t rest : List ℕ) → Goes start now whole (t ++ rest) → Room start whole → Room now t
goes_room {start} {now} {whole} t rest g h =
    let at = sym (after_at now (t ++ rest)) ∙ ap (λ (w : Writer). w.at) g.there ∙ after_at start whole in
    let long = sym (after_length now (t ++ rest)) ∙ ap (λ (w : Writer). length w.out.now) g.there ∙ after_length start whole in
    omega (arith, at, long, length-append t rest)

pub goes-next : {start now next : Writer} {whole : List ℕ} (t rest : List ℕ) → Goes start now whole (t ++ rest) → next ≡ after now t → Goes start next whole rest
goes-next {now = now} t rest g e = record { there = ap (λ (w : Writer). after w rest) e ∙ after_then now t rest ∙ g.there }

pub goes-ended : {start now : Writer} {whole : List ℕ} → Goes start now whole [] → now ≡ after start whole
goes-ended {now = now} g = sym (after_nothing now) ∙ g.there

-- a text copied to the writer's place
pub copied : (w : Writer) (t ys : List ℕ) → Room w t → ys ≡ t → record { out = record w.out { now = put_mid w.at (w.at + length t - w.at) w.out.now ys }; at = w.at + length t } ≡ after w t
unfolding after
copied w t ys h e =
    let out = w.out.now in
    let k : length t ≡ w.at + length t - w.at = omega arith in
    let stored = put_mid-paste w.at (w.at + length t - w.at) out ys t (length t) e k refl ∙ rw (take-length t) (sym (sets-eq t out w.at h)) in
    ap (λ (l : List ℕ). record { out = record w.out { now = l }; at = w.at + length t }) stored

pub decimal_printed : (n : ℕ) → n < 2 ^ 64 → decimal n ≡ fmt.decimal n
unfolding decimal digits
decimal_printed n h = decimal_from_appends digits (record { one = λ k m l. rw (lt-ltb m 10 l, digits); more = λ k m l. rw (le-ltb m 10 l, digits) }) (suc n) n h (rw (← add-one n) (length-decimal-le_succ n h))

pub signed_printed : (z : ℤ) → SFits w32 z → signed z ≡ signed_decimal z
unfolding signed ascii
signed_printed (pos n) f = decimal_printed n (omega (arith, abs-fits (pos n) f))
signed_printed (negsuc n) f = ap (λ (ds : List ℕ). 45 ∷ ds) (decimal_printed (suc n) (omega (arith, abs-fits (negsuc n) f)))

pub ruleset steps = (after_at, after_length, after_then, length-append, decimal_printed, signed_printed, to_z-of_z)

-- of the victims' words
module _ {start now : Writer} (vs : List ℕ) (i : ℕ) (g : Goes start now (victim_words vs) (victim_words (drop i vs))) where
  abbrev word : List ℕ
  word = ascii " " ++ fmt.decimal (get_or vs i 0)

  module _ (h : i < length vs) (f : Fits w8 (get_or vs i 0)) where
    words_left : victim_words (drop i vs) ≡ word ++ victim_words (drop (i + 1) vs)
    unfolding victim_words
    words_left = rw (add-one i, ← decimal_printed (get_or vs i 0) (omega (arith, f))) (ap victim_words (drop-cons vs i 0 h))

    pub word_room : Room start (victim_words vs) → Room now word
    word_room = goes_room word (victim_words (drop (i + 1) vs)) (rw words_left at g)

    pub word-next : {next : Writer} → next ≡ after now word → Goes start next (victim_words vs) (victim_words (drop (i + 1) vs))
    word-next = goes-next word (victim_words (drop (i + 1) vs)) (rw words_left at g)

  pub words_ended : length vs ≤ i → now ≡ after start (victim_words vs)
  unfolding victim_words
  words_ended h = goes-ended (rw (drop_of_length-le vs {i = i} h) at g)

-- of the parts' lines
module _ {start now : Writer} (first t : ℕ) (ps : List Part) (i : ℕ) (g : Goes start now (part_lines first ps) (part_lines t (drop i ps))) where
  abbrev p : Part
  p = get_or ps i empty_part

  module _ (h : i < length ps) where
    lines_left : part_lines t (drop i ps) ≡ part_line t p ++ part_lines (t + p.time) (drop (i + 1) ps)
    unfolding part_lines
    lines_left = rw (add-one i) (ap (part_lines t) (drop-cons ps i empty_part h))

    pub line_room : Room start (part_lines first ps) → Room now (part_line t p)
    line_room = goes_room (part_line t p) (part_lines (t + p.time) (drop (i + 1) ps)) (rw lines_left at g)

    pub line-next : {next : Writer} → next ≡ after now (part_line t p) → Goes start next (part_lines first ps) (part_lines (t + p.time) (drop (i + 1) ps))
    line-next = goes-next (part_line t p) (part_lines (t + p.time) (drop (i + 1) ps)) (rw lines_left at g)

  pub lines_ended : length ps ≤ i → now ≡ after start (part_lines first ps)
  unfolding part_lines
  lines_ended h = goes-ended (rw (drop_of_length-le ps {i = i} h) at g)
