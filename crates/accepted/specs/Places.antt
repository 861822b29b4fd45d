-- The place of a refusal is inside the book, or its end where a field is cut.
use Rattle.std.specs.Prelude.{ℕ, ◌+◌, ◌<◌, ◌≤◌, ◌≡◌, refl, Bool, true, false, cond, List, ltb, eqb}
use Rattle.std.proofs.Common.{arith, inl, inr, lt-ltb, le-ltb}
use Rattle.std.proofs.Math.ListN.{length}
use Rattle.std.proofs.lemmas.Bool.{eqb-false}
use Rattle.laws.specs.Count.{upto, upto-each}
use Rattle.laws.specs.Search.{lt-or-le}
use Rattle.cursor.specs.Reading.{Reading}
use Rattle.book.specs.Read.{Book}
use Rattle.cursor.specs.Refusal.{SIZE, CUT, TAIL}
use Rattle.cursor.specs.Field.{value_at, refused_at, got_at, field_of, rule_of}
use Rattle.book.specs.Format.{tail_read, refused_book}
use Rattle.accepted.specs.Fields.{Onward, onward, field-stays, field_cut, field-outside, field-got, field-passed, rule-stays, rule-broken, rule-kept, rule-passed, ruled_of}

-- the place that stands beside a number
pub record Placed (s : List ℕ) (number place : ℕ) : Type 0 where
  pub within : place ≤ length s
  pub inside : 0 < number → (number ≡ CUT → ⊥) → (number ≡ SIZE → ⊥) → place < length s

-- a reading that goes on is in the book, and one that is refused has its place there
pub record Inside (s : List ℕ) (r : Reading) : Type 0 where
  pub going : r.number ≡ 0 → r.next ≤ length s
  pub refused : 0 < r.number → Placed s r.number r.place

inside_of : {s : List ℕ} {r o : Reading} → r ≡ o → Inside s o → Inside s r
inside_of e k = rw e k

pub got-inside : (s : List ℕ) (place n v : ℕ) → place + n ≤ length s → Inside s (got_at place n v)
got-inside s place n v h = record { going = λ e. h; refused = λ l. absurd (omega arith) }

refused-inside : (s : List ℕ) (number place : ℕ) → 0 < number → Placed s number place → Inside s (refused_at number place)
refused-inside s number place c p = record { going = λ e. omega arith; refused = λ l. p }

pub before-end : (s : List ℕ) (number place : ℕ) → place < length s → Placed s number place
before-end s number place h = record { within = omega arith; inside = λ l a b. h }

module _ (s : List ℕ) (n low high number : ℕ) (some : 1 ≤ n) (c : 0 < number) (r : Reading) where
  pub field-inside : Inside s r → Inside s (field_of s n low high number r)
  field-inside k = elim (lt-or-le 0 r.number) [
    | inl l ↦ inside_of (field-stays s n low high number r l) (refused-inside s r.number r.place l (k.refused l))
    | inr l ↦
        let p = r.next in
        let o : Onward r p = onward (omega arith) refl in
        let h : p ≤ length s = k.going (omega arith) in
        elim (lt-or-le (length s) (p + n)) [
          | inl q ↦ inside_of (field_cut s n low high number r p o q) (refused-inside s CUT p (omega arith) (record { within = h; inside = λ l a b. absurd (a refl) }))
          | inr f ↦
              let t : p < length s = omega arith in
              let out = refused-inside s number p c (before-end s number p t) in
              elim (lt-or-le (value_at s p n) low) [
                | inl q ↦ inside_of (field-outside s n low high number r p o f (inl q)) out
                | inr a ↦ elim (lt-or-le high (value_at s p n)) [
                  | inl q ↦ inside_of (field-outside s n low high number r p o f (inr q)) out
                  | inr b ↦ inside_of (field-got s n low high number r p o (record { fits = f; least = a; most = b })) (got-inside s p n _ f)
                ]
              ]
        ]
  ]

module _ (s : List ℕ) (ok : Bool) (number place : ℕ) (c : 0 < number) (r : Reading) where
  pub rule-inside : Inside s r → (r.number ≡ 0 → ok ≡ false → Placed s number place) → Inside s (rule_of ok number place r)
  rule-inside k p = elim (lt-or-le 0 r.number) [
    | inl l ↦ inside_of (rule-stays ok number place r l) (refused-inside s r.number r.place l (k.refused l))
    | inr l ↦ let g : r.number ≡ 0 = omega arith in by ok refl g
  ]
    where
      by : (b : Bool) → ok ≡ b → r.number ≡ 0 → Inside s (rule_of ok number place r)
      by true e g = inside_of (rule-kept ok number place r g e) k
      by false e g = inside_of (rule-broken ok number place r g e) (refused-inside s number place c (p g e))

module _ (s : List ℕ) (n low high number : ℕ) (ok : ℕ → Bool) (some : 1 ≤ n) (c : 0 < number) (r : Reading) where
  -- what passed begins inside
  pub field-place : (field_of s n low high number r).number ≡ 0 → (field_of s n low high number r).place < length s
  field-place h = let k = field-passed s n low high number r c h in rw k.is (omega (arith, k.passes.fits))

  pub ruled-place : (ruled_of s n low high number ok r).number ≡ 0 → (ruled_of s n low high number ok r).place < length s
  ruled-place h =
      let a = field_of s n low high number r in
      let k = rule-passed (ok a.value) number a.place a c h in
      rw k.is (field-place k.was)

pub loop-inside : (s : List ℕ) {B : Type 0} (g : B → Reading) (f : ℕ → B → B) → ((i : ℕ) (x : B) → Inside s (g x) → Inside s (g (f i x))) → (n : ℕ) (b : B) → Inside s (g b) → Inside s (g (upto f n b))
loop-inside s {B} g f turn n b k = upto-each (λ (i : ℕ) (x : B). Inside s (g x)) f n b k (λ i h z. turn i (upto f i b) z) n (omega arith)

pub tail-inside : (s : List ℕ) (r : Reading) → Inside s r → Inside s (tail_read s r)
unfolding tail_read
tail-inside s r k =
    rule-inside s (eqb r.next (length s)) TAIL r.next (omega arith) r k
    (λ g e. before-end s TAIL r.next (let h = k.going g in let ne = eqb-false r.next (length s) e in omega arith))

pub book-placed : (s : List ℕ) (r : Reading) (b : Book) → Inside s r → Placed s b.number b.place → Placed s (cond (ltb 0 r.number) (refused_book r.number r.place) b).number (cond (ltb 0 r.number) (refused_book r.number r.place) b).place
unfolding refused_book
book-placed s r b k z = elim (lt-or-le 0 r.number) [
  | inl l ↦ rw (lt-ltb 0 r.number l) (k.refused l)
  | inr l ↦ rw (le-ltb 0 r.number l) z
]
