-- What is read back in the bytes of an answer is that answer, whatever comes after them: where its times, its total and its end fit their fields.
use Rattle.std.specs.Prelude.{◌≡◌, ℕ, ◌+◌, ◌-◌, ◌*◌, ◌/◌, ◌%◌, ◌<◌, ◌≤◌, get_or, take, drop, replicate}
use Rattle.std.proofs.Math.Path.{refl}
use Rattle.std.proofs.Common.{ap, ◌∙◌}
use mathlib.Core.List.{List, [], ◌∷◌, ◌++◌, append_assoc}
use native.Mathlib.Omega.{arith}
use Rattle.std.proofs.Math.ListN.{length, length-append, length-replicate}
use Rattle.std.proofs.Math.Seq.{take-append_seam}
use Rattle.laws.specs.Stores.{over}
use Rattle.laws.specs.Fill.{padded}
use Rattle.laws.specs.Signed.{up, dn}
use Rattle.cursor.specs.Field.{value_at}
use Rattle.curve.specs.Layout.{signed_of}
use Rattle.gus.specs.Plan.{Answer}
use Rattle.planner.specs.LaidOut.{empty_part}
use Rattle.planner.specs.Planned.{laid_plan}
use Rattle.ilhuepatl.specs.Answer.{two, four, bits, parts_bytes, answer_bytes}
use Rattle.ilhuepatl.specs.Parts.{parts-length}
use Rattle.ilhuepatl.specs.Length.{answer-length}
use Rattle.replay.specs.ReadBack.{each, length_at, version_at, part_in, read_answer}
use Rattle.replay.specs.ReadFields.{value-past, each_same, four-read, bits_small, bytes_read, TimesFit, JobsFit}

-- an answer whose numbers have room in the bytes of their fields
pub record Fits (a : Answer) : Type 0 where
  pub few_victims : length a.victims ≤ 32
  pub few_parts : length a.plan.parts ≤ 96
  pub victims : (k : ℕ) → k < length a.victims → get_or a.victims k 0 ≤ 255
  pub jobs : JobsFit a.plan.parts
  pub times : TimesFit a.plan.parts
  pub rounds : a.plan.rounds ≤ 255
  pub above : up a.plan.total ≤ 2147483647
  pub below : dn a.plan.total ≤ 2147483648
  pub end : a.plan.end ≤ 4294967295

-- by its fields, once the counts are known
pub read_by : {a : Answer} (s : List ℕ) (victims parts : ℕ)
    → value_at s 3 1 ≡ victims
    → value_at s (4 + victims) 1 ≡ parts
    → each victims (λ k. value_at s (4 + k) 1) ≡ a.victims
    → each parts (λ k. part_in s (4 + victims + 1 + k * 4)) ≡ a.plan.parts
    → value_at s (4 + victims + 1 + parts * 4) 1 ≡ a.plan.rounds
    → signed_of 4294967295 (value_at s (4 + victims + 1 + parts * 4 + 1) 4) ≡ a.plan.total
    → value_at s (4 + victims + 1 + parts * 4 + 5) 4 ≡ a.plan.end
    → read_answer s ≡ a
unfolding read_answer
read_by s victims parts few many v p r t e = rw (few, many) (λ i. record { victims = v i; plan = record { parts = p i; rounds = r i; total = t i; end = e i } })

-- ---- its bytes, laid out: x and y are those of its length, and rest is what comes after it
module _ (a : Answer) (x y : ℕ) (rest : List ℕ) where
  abbrev pub front : List ℕ
  front = x ∷ y ∷ 1 ∷ length a.victims ∷ []

  abbrev pub close : List ℕ
  close = a.plan.rounds ∷ (four (bits a.plan.total) ++ (four a.plan.end ++ rest))

  abbrev pub back : List ℕ
  back = length a.plan.parts ∷ (parts_bytes a.plan.parts ++ close)

  abbrev pub laid : List ℕ
  laid = front ++ (a.victims ++ back)

  abbrev pub victim_count : ℕ
  victim_count = length a.victims

  abbrev pub part_count : ℕ
  part_count = length a.plan.parts

  pub few : value_at laid 3 1 ≡ victim_count
  unfolding value_at
  few = refl

  first : value_at back 0 1 ≡ part_count
  unfolding value_at
  first = refl

  pub many : value_at laid (4 + victim_count) 1 ≡ part_count
  many = value-past front (a.victims ++ back) (4 + victim_count) victim_count 1 refl ∙ value-past a.victims back victim_count 0 1 (omega arith) ∙ first

  pub victims-laid : each victim_count (λ k. value_at laid (4 + k) 1) ≡ a.victims
  victims-laid = each_same victim_count (λ k. value_at laid (4 + k) 1) (λ k. value_at (a.victims ++ back) k 1) (λ k. value-past front (a.victims ++ back) (4 + k) k 1 refl) ∙ bytes_read a.victims back

  pub close-laid : (p k w : ℕ) → p ≡ 4 + victim_count + 1 + part_count * 4 + k → value_at laid p w ≡ value_at close k w
  close-laid p k w e =
      value-past front (a.victims ++ back) p (victim_count + (1 + (part_count * 4 + k))) w (omega arith)
      ∙ value-past a.victims back (victim_count + (1 + (part_count * 4 + k))) (1 + (part_count * 4 + k)) w refl
      ∙ value-past (part_count ∷ []) (parts_bytes a.plan.parts ++ close) (1 + (part_count * 4 + k)) (part_count * 4 + k) w refl
      ∙ value-past (parts_bytes a.plan.parts) close (part_count * 4 + k) k w (omega (arith, parts-length a.plan.parts))

  pub rounds-first : value_at close 0 1 ≡ a.plan.rounds
  unfolding value_at
  rounds-first = refl

  pub total-next : value_at close 1 4 ≡ bits a.plan.total
  total-next =
      value-past (a.plan.rounds ∷ []) (four (bits a.plan.total) ++ (four a.plan.end ++ rest)) 1 0 4 refl
      ∙ four-read (bits a.plan.total) (four a.plan.end ++ rest) (bits_small a.plan.total)

  pub end-last : a.plan.end ≤ 4294967295 → value_at close 5 4 ≡ a.plan.end
  unfolding four
  end-last h =
      value-past (a.plan.rounds ∷ four (bits a.plan.total)) (four a.plan.end ++ rest) 5 0 4 refl
      ∙ four-read a.plan.end rest h

regrouped : (a b c d e : List ℕ) → a ++ b ++ (c ++ d) ++ e ≡ a ++ (b ++ (c ++ (d ++ e)))
regrouped a b c d e = simp append_assoc

module _ (a : Answer) where
  abbrev size : ℕ
  size = 14 + length a.victims + 4 * length a.plan.parts

  pub victims-whole : take (length a.victims) (padded 32 0 a.victims) ≡ a.victims
  unfolding padded
  victims-whole = take-append_seam a.victims _

  pub parts_whole : take (length a.plan.parts) (padded 96 empty_part a.plan.parts) ≡ a.plan.parts
  unfolding padded
  parts_whole = take-append_seam a.plan.parts _

  answer-laid : (rest : List ℕ) → answer_bytes (laid_plan a) ++ rest ≡ laid a (size / 256 % 256) (size % 256) rest
  unfolding answer_bytes laid_plan two
  answer-laid rest =
      rw (victims-whole, parts_whole)
      (ap {B = List ℕ} (λ l. size / 256 % 256 ∷ size % 256 ∷ 1 ∷ length a.victims ∷ l)
      (regrouped a.victims (length a.plan.parts ∷ parts_bytes a.plan.parts) (a.plan.rounds ∷ four (bits a.plan.total)) (four a.plan.end) rest))

  size-read : (rest : List ℕ) → size ≤ 65535 → length_at (laid a (size / 256 % 256) (size % 256) rest) ≡ size
  unfolding value_at
  size-read rest h = omega arith

  version-first : (rest : List ℕ) → version_at (laid a (size / 256 % 256) (size % 256) rest) ≡ 1
  unfolding value_at
  version-first rest = refl

  pub answer-size : Fits a → length (answer_bytes (laid_plan a)) ≡ size
  unfolding laid_plan padded
  answer-size f =
      answer-length (laid_plan a)
      (record {
        all_victims = omega (arith, length-append a.victims (replicate (32 - length a.victims) 0), length-replicate {A = ℕ} (32 - length a.victims) 0);
        all_parts = omega (arith, length-append a.plan.parts (replicate (96 - length a.plan.parts) empty_part), length-replicate (96 - length a.plan.parts) empty_part);
        few_victims = f.few_victims;
        few_parts = f.few_parts;
      })

  -- THE ANSWER'S BYTES OVER WHAT WAS LENT: what is read there
  module _ (out : List ℕ) where
    abbrev pub after : List ℕ
    after = over (answer_bytes (laid_plan a)) out

    abbrev pub later : List ℕ
    later = drop (length (answer_bytes (laid_plan a))) out

    pub over-laid : after ≡ laid a (size / 256 % 256) (size % 256) later
    unfolding over
    over-laid = answer-laid later

    pub length-read : Fits a → length_at after ≡ size
    length-read f = ap length_at over-laid ∙ size-read later (omega (arith, f.few_victims, f.few_parts))

    pub version-read : version_at after ≡ 1
    version-read = ap version_at over-laid ∙ version-first later
