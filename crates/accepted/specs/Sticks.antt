-- "The first one met is given": once a reading is refused, no later step changes the number or the place.
use Prim.Native.Nat.{ℕ, zero, suc, ◌<◌, ◌≤◌}
use native.Mathlib.Omega.{arith}
use Rattle.std.specs.Prelude.{◌≡◌, refl, Bool, List}
use Rattle.std.proofs.Common.{ap, ◌∙◌}
use Rattle.std.proofs.Math.Logic.{inl, inr}
use Rattle.laws.specs.Count.{upto}
use Rattle.laws.specs.Search.{lt-or-le}
use Rattle.cursor.specs.Reading.{Reading}
use Rattle.cursor.specs.Field.{field_of, rule_of}
use Rattle.book.specs.Format.{tail_read}
use Rattle.accepted.specs.Fields.{field-stays, rule-stays}

-- what r refuses, o refuses
pub record Sticks (r o : Reading) : Type 0 where
  pub number : 0 < r.number → o.number ≡ r.number
  pub place : 0 < r.number → o.place ≡ r.place

pub sticks-self : {r : Reading} → Sticks r r
sticks-self = record { number = λ h. refl; place = λ h. refl }

pub sticks-then : {a b c : Reading} → Sticks a b → Sticks b c → Sticks a c
sticks-then {a} {b} {c} p q = record {
  number = λ h. let e = p.number h in let l : 0 < b.number = omega arith in q.number l ∙ e;
  place = λ h. let e = p.number h in let l : 0 < b.number = omega arith in q.place l ∙ p.place h;
}

-- so what is unrefused was unrefused
pub unrefused-before : {r o : Reading} → Sticks r o → o.number ≡ 0 → r.number ≡ 0
unrefused-before {r} {o} k h = elim (lt-or-le 0 r.number) [
  | inl l ↦ absurd (let e = k.number l in omega arith)
  | inr l ↦ omega arith
]

-- the loop: what each turn keeps, all of them keep
module _ {B : Type 0} (g : B → Reading) (f : ℕ → B → B) (turn : (i : ℕ) (x : B) → Sticks (g x) (g (f i x))) (b : B) where
  pub loop-sticks : (m n : ℕ) → m ≤ n → Sticks (g (upto f m b)) (g (upto f n b))
  unfolding upto
  loop-sticks m zero h = let e : m ≡ 0 = omega arith in rw e sticks-self
  loop-sticks m (suc n) h = elim (lt-or-le n m) [
    | inl l ↦ let e : m ≡ suc n = omega arith in rw e sticks-self
    | inr l ↦ sticks-then (loop-sticks m n l) (turn n (upto f n b))
  ]

  pub loop-sticks-all : (n : ℕ) → Sticks (g b) (g (upto f n b))
  unfolding upto
  loop-sticks-all n = loop-sticks 0 n (omega arith)

module _ (s : List ℕ) (n low high number : ℕ) (r : Reading) where
  pub field-sticks : Sticks r (field_of s n low high number r)
  field-sticks = record {
    number = λ h. ap (λ (x : Reading). x.number) (field-stays s n low high number r h);
    place = λ h. ap (λ (x : Reading). x.place) (field-stays s n low high number r h);
  }

pub rule-sticks : (ok : Bool) (number place : ℕ) (r : Reading) → Sticks r (rule_of ok number place r)
rule-sticks ok number place r = record {
  number = λ h. ap (λ (x : Reading). x.number) (rule-stays ok number place r h);
  place = λ h. ap (λ (x : Reading). x.place) (rule-stays ok number place r h);
}

pub tail-sticks : (s : List ℕ) (r : Reading) → Sticks r (tail_read s r)
unfolding tail_read
tail-sticks s r = rule-sticks _ _ _ r
