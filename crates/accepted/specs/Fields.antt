-- One field and one further rule: when they are refused, where, and what passing says.
use Rattle.std.specs.Prelude.{ℕ, ◌+◌, ◌-◌, ◌<◌, ◌≤◌, ◌≡◌, ◌⊎◌, Bool, List}
use Rattle.std.proofs.Common.{arith, ap, inl, inr}
use Rattle.std.proofs.Math.Path.{refl}
use Rattle.std.proofs.Math.Bool.{true, false, cond}
use Rattle.std.proofs.Math.ListN.{length}
use Rattle.std.proofs.Math.Dec.{ltb}
use borrow.Author.Tests.{lt-ltb, le-ltb, ltb-false}
use Rattle.laws.specs.Search.{lt-or-le}
use Rattle.cursor.specs.Reading.{Reading}
use Rattle.cursor.specs.Refusal.{CUT}
use Rattle.cursor.specs.Field.{value_at, refused_at, got_at, judged, read_at, field_of, rule_of}

-- the reading goes on at p
pub record Onward (r : Reading) (p : ℕ) : Type 0 where
  pub unrefused : r.number ≡ 0
  pub here : r.next ≡ p

pub onward : {r : Reading} {p : ℕ} → r.number ≡ 0 → r.next ≡ p → Onward r p
onward g e = record { unrefused = g; here = e }

-- what passing a field says of the bytes at p
pub record Passes (s : List ℕ) (n low high p : ℕ) : Type 0 where
  pub fits : p + n ≤ length s
  pub least : low ≤ value_at s p n
  pub most : value_at s p n ≤ high

module _ (s : List ℕ) (n low high number : ℕ) (r : Reading) where
  pub field-stays : 0 < r.number → field_of s n low high number r ≡ refused_at r.number r.place
  unfolding field_of
  field-stays h = rw (lt-ltb 0 r.number h)

  module _ (p : ℕ) (o : Onward r p) where
    pub field_cut : length s < p + n → field_of s n low high number r ≡ refused_at CUT p
    unfolding field_of read_at
    field_cut h = rw (o.unrefused, o.here) (past (ltb (length s) n) refl)
      where
        past : (b : Bool) → ltb (length s) n ≡ b → cond b (refused_at CUT p) (cond (ltb (length s - n) p) (refused_at CUT p) (judged low high number p n (value_at s p n))) ≡ refused_at CUT p
        past true e = refl
        past false e = let m : n ≤ length s = ltb-false _ _ e in rw (lt-ltb (length s - n) p (omega arith))

    within : p + n ≤ length s → field_of s n low high number r ≡ judged low high number p n (value_at s p n)
    unfolding field_of read_at
    within h = rw (o.unrefused, o.here, le-ltb (length s) n (omega arith), le-ltb (length s - n) p (omega arith))

    pub field-outside : p + n ≤ length s → (value_at s p n < low) ⊎ (high < value_at s p n) → field_of s n low high number r ≡ refused_at number p
    unfolding judged
    field-outside h (inl l) = rw (within h, lt-ltb _ _ l)
    field-outside h (inr l) = rw (within h) (by (ltb (value_at s p n) low))
      where
        by : (b : Bool) → cond b (refused_at number p) (cond (ltb high (value_at s p n)) (refused_at number p) (got_at p n (value_at s p n))) ≡ refused_at number p
        by true = refl
        by false = rw (lt-ltb _ _ l)

    pub field-got : Passes s n low high p → field_of s n low high number r ≡ got_at p n (value_at s p n)
    unfolding judged
    field-got k = rw (within k.fits, le-ltb (value_at s p n) low k.least, le-ltb high (value_at s p n) k.most)

    -- and there is no other way to pass
    pub field_back : 0 < number → (field_of s n low high number r).number ≡ 0 → Passes s n low high p
    field_back c h = elim (lt-or-le (length s) (p + n)) [
      | inl l ↦ absurd (no_number CUT (omega arith) (field_cut l))
      | inr f ↦ elim (lt-or-le (value_at s p n) low) [
        | inl l ↦ absurd (no_number number c (field-outside f (inl l)))
        | inr a ↦ elim (lt-or-le high (value_at s p n)) [
          | inl l ↦ absurd (no_number number c (field-outside f (inr l)))
          | inr b ↦ record { fits = f; least = a; most = b }
        ]
      ]
    ]
      where
        no_number : (m : ℕ) → 0 < m → field_of s n low high number r ≡ refused_at m p → ⊥
        no_number m l e = omega (arith, ap (λ (x : Reading). x.number) e)

-- what a passed field tells
pub record FieldPassed (s : List ℕ) (n low high : ℕ) (r o : Reading) : Type 0 where
  pub was : r.number ≡ 0
  pub passes : Passes s n low high r.next
  pub is : o ≡ got_at r.next n (value_at s r.next n)

pub field-passed : (s : List ℕ) (n low high number : ℕ) (r : Reading) → 0 < number → (field_of s n low high number r).number ≡ 0 → FieldPassed s n low high r (field_of s n low high number r)
field-passed s n low high number r c h = elim (lt-or-le 0 r.number) [
  | inl l ↦ absurd (omega (arith, ap (λ (x : Reading). x.number) (field-stays s n low high number r l)))
  | inr l ↦
      let g : r.number ≡ 0 = omega arith in
      let k = field_back s n low high number r r.next (onward g refl) c h in
      record { was = g; passes = k; is = field-got s n low high number r r.next (onward g refl) k }
]

-- what a passed rule tells
pub record RulePassed (ok : Bool) (r o : Reading) : Type 0 where
  pub was : r.number ≡ 0
  pub holds : ok ≡ true
  pub is : o ≡ r

module _ (ok : Bool) (number place : ℕ) (r : Reading) where
  pub rule-stays : 0 < r.number → rule_of ok number place r ≡ refused_at r.number r.place
  unfolding rule_of
  rule-stays h = rw (lt-ltb 0 r.number h)

  pub rule-broken : r.number ≡ 0 → ok ≡ false → rule_of ok number place r ≡ refused_at number place
  unfolding rule_of
  rule-broken g e = rw (g, e)

  pub rule-kept : r.number ≡ 0 → ok ≡ true → rule_of ok number place r ≡ r
  unfolding rule_of
  rule-kept g e = rw (g, e)

  -- and there is no other way to pass
  pub rule-passed : 0 < number → (rule_of ok number place r).number ≡ 0 → RulePassed ok r (rule_of ok number place r)
  rule-passed c h = elim (lt-or-le 0 r.number) [
    | inl l ↦ absurd (omega (arith, ap (λ (x : Reading). x.number) (rule-stays l)))
    | inr l ↦ by ok refl (omega arith)
  ]
    where
      by : (b : Bool) → ok ≡ b → r.number ≡ 0 → RulePassed ok r (rule_of ok number place r)
      by true e g = record { was = g; holds = e; is = rule-kept g e }
      by false e g = absurd (omega (arith, ap (λ (x : Reading). x.number) (rule-broken g e)))

-- A FIELD WITH A FURTHER RULE on its value, refused at its first byte
abbrev pub ruled_of : List ℕ → ℕ → ℕ → ℕ → ℕ → (ℕ → Bool) → Reading → Reading
ruled_of s n low high number ok r = let a = field_of s n low high number r in rule_of (ok a.value) number a.place a

module _ (s : List ℕ) (n low high number : ℕ) (ok : ℕ → Bool) (r : Reading) (p : ℕ) (o : Onward r p) where
  pub ruled-got : Passes s n low high p → ok (value_at s p n) ≡ true → ruled_of s n low high number ok r ≡ got_at p n (value_at s p n)
  ruled-got k e = rw (field-got s n low high number r p o k) (rule-kept (ok (value_at s p n)) number p (got_at p n (value_at s p n)) refl e)

  pub ruled-back : 0 < number → (ruled_of s n low high number ok r).number ≡ 0 → Passes s n low high p × (ok (value_at s p n) ≡ true)
  ruled-back c h =
      let a = field_of s n low high number r in
      let k = field_back s n low high number r p o c (rule-passed (ok a.value) number a.place a c h).was in
      let z = field-got s n low high number r p o k in
      (k, (rule-passed (ok (value_at s p n)) number p (got_at p n (value_at s p n)) c (rw z at h)).holds)
