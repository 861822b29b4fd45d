-- The laws of a list of holds in which no resource stands twice and nothing is at zero.
use Rattle.std.specs.Prelude.{◌≡◌, ◌≢◌, Bool, true, false, cond, ◌&&◌, ℕ, ◌<◌, ltb}
use Rattle.std.proofs.Math.Path.{refl, ap}
use Rattle.std.proofs.Common.{sym, ◌∙◌, eq-eqb, ne_eqb, lt-ltb, ltb-true}
use Rattle.std.proofs.lemmas.Bool.{false≢true}
use mathlib.Core.List.{List, [], ◌∷◌, map}
use Rattle.std.proofs.Math.Decide.{ℕ_discrete}
use Rattle.book.specs.declared.Entry.{Entry}
use Rattle.book.specs.Format.{no_entry}
use Rattle.replay.specs.Machine.{lasting, still_held}
use Rattle.replay.specs.View.{lists, hold_on}

-- no resource stands twice
abbrev pub Distinct : List Entry → Type 0
Distinct [] = Unit {0}
Distinct (e ∷ es) = (lists es e.resource ≡ false) × Distinct es

-- both times of each are above zero
abbrev pub Some : List Entry → Type 0
Some [] = Unit {0}
Some (e ∷ es) = (0 < e.hold) × (0 < e.rollback) × Some es

module _ (e : Entry) (es : List Entry) (r : ℕ) where
  pub lists-here : e.resource ≡ r → lists (e ∷ es) r ≡ true
  unfolding lists
  lists-here q = rw (eq-eqb e.resource r q)

  pub lists-on : e.resource ≢ r → lists (e ∷ es) r ≡ lists es r
  unfolding lists
  lists-on q = rw (ne_eqb e.resource r q)

  pub hold-here : e.resource ≡ r → hold_on (e ∷ es) r ≡ e
  unfolding hold_on
  hold-here q = rw (eq-eqb e.resource r q)

  pub hold-on : e.resource ≢ r → hold_on (e ∷ es) r ≡ hold_on es r
  unfolding hold_on
  hold-on q = rw (ne_eqb e.resource r q)

-- what is not listed has no hold, and what is listed has some
pub unlisted : (es : List Entry) (r : ℕ) → lists es r ≡ false → hold_on es r ≡ no_entry
unfolding hold_on
unlisted [] r n = refl
unlisted (e ∷ es) r n = elim (ℕ_discrete e.resource r) [
  | yes q ↦ absurd (false≢true (sym n ∙ lists-here e es r q))
  | no q ↦ hold-on e es r q ∙ unlisted es r (sym (lists-on e es r q) ∙ n)
]

pub listed : (es : List Entry) (r : ℕ) → Some es → lists es r ≡ true → (0 < (hold_on es r).hold) × (0 < (hold_on es r).rollback)
unfolding lists
listed [] r s y = absurd (false≢true y)
listed (e ∷ es) r s y = elim (ℕ_discrete e.resource r) [
  | yes q ↦ rw (hold-here e es r q) (s.0, s.1)
  | no q ↦ rw (hold-on e es r q) (listed es r s.2 (sym (lists-on e es r q) ∙ y))
]

-- EACH HOLD CHANGED by f, which leaves it at its resource
module _ (f : Entry → Entry) (same : (e : Entry) → (f e).resource ≡ e.resource) where
  pub lists-map : (es : List Entry) (r : ℕ) → lists (map f es) r ≡ lists es r
  unfolding lists
  lists-map [] r = refl
  lists-map (e ∷ es) r = rw (same e, lists-map es r)

  pub distinct-map : (es : List Entry) → Distinct es → Distinct (map f es)
  distinct-map [] a = tt
  distinct-map (e ∷ es) a = (rw (same e) (lists-map es e.resource ∙ a.0), distinct-map es a.1)

  pub hold-map : (es : List Entry) (r : ℕ) → lists es r ≡ true → hold_on (map f es) r ≡ f (hold_on es r)
  unfolding lists
  hold-map [] r y = absurd (false≢true y)
  hold-map (e ∷ es) r y = elim (ℕ_discrete e.resource r) [
    | yes q ↦ hold-here (f e) (map f es) r (same e ∙ q) ∙ ap f (sym (hold-here e es r q))
    | no q ↦ hold-on (f e) (map f es) r (λ z. q (sym (same e) ∙ z)) ∙ hold-map es r (sym (lists-on e es r q) ∙ y) ∙ ap f (sym (hold-on e es r q))
  ]

-- WHAT IS AT ZERO IS FREED
both : (a b : Bool) → (a && b) ≡ true → (a ≡ true) × (b ≡ true)
both true b e = (refl, e)
both false b e = absurd (false≢true e)

-- the list es with e in front of it, if that is so
abbrev kept : Bool → Entry → List Entry → List Entry
kept b e es = cond b (e ∷ es) es

pub some-kept : (es : List Entry) → Some (still_held es)
unfolding still_held
some-kept [] = tt
some-kept (e ∷ es) = go (lasting e) refl (some-kept es)
  where
    go : (b : Bool) → lasting e ≡ b → Some (still_held es) → Some (kept b e (still_held es))
    go true y s = let x = both (ltb 0 e.hold) (ltb 0 e.rollback) y in (ltb-true 0 e.hold x.0, ltb-true 0 e.rollback x.1, s)
    go false y s = s

pub unlisted-kept : (es : List Entry) (r : ℕ) → lists es r ≡ false → lists (still_held es) r ≡ false
unfolding lists still_held
unlisted-kept [] r n = refl
unlisted-kept (e ∷ es) r n = elim (ℕ_discrete e.resource r) [
  | yes q ↦ absurd (false≢true (sym n ∙ lists-here e es r q))
  | no q ↦ go q (lasting e) (unlisted-kept es r (sym (lists-on e es r q) ∙ n))
]
  where
    go : e.resource ≢ r → (b : Bool) → lists (still_held es) r ≡ false → lists (kept b e (still_held es)) r ≡ false
    go q true z = lists-on e (still_held es) r q ∙ z
    go q false z = z

pub distinct-kept : (es : List Entry) → Distinct es → Distinct (still_held es)
unfolding still_held
distinct-kept [] a = tt
distinct-kept (e ∷ es) a = go (lasting e) (distinct-kept es a.1)
  where
    go : (b : Bool) → Distinct (still_held es) → Distinct (kept b e (still_held es))
    go true z = (unlisted-kept es e.resource a.0, z)
    go false z = z

pub hold-kept : (es : List Entry) (r : ℕ) → Distinct es → hold_on (still_held es) r ≡ cond (lasting (hold_on es r)) (hold_on es r) no_entry
unfolding still_held hold_on
hold-kept [] r a = refl
hold-kept (e ∷ es) r a = elim (ℕ_discrete e.resource r) [
  | yes q ↦ rw (hold-here e es r q) (here q (lasting e))
  | no q ↦ rw (hold-on e es r q) (there q (lasting e) (hold-kept es r a.1))
]
  where
    here : e.resource ≡ r → (b : Bool) → hold_on (kept b e (still_held es)) r ≡ cond b e no_entry
    here q true = hold-here e (still_held es) r q
    here q false = unlisted (still_held es) r (unlisted-kept es r (ap (lists es) (sym q) ∙ a.0))

    there : e.resource ≢ r → (b : Bool) → hold_on (still_held es) r ≡ cond (lasting (hold_on es r)) (hold_on es r) no_entry → hold_on (kept b e (still_held es)) r ≡ cond (lasting (hold_on es r)) (hold_on es r) no_entry
    there q true z = hold-on e (still_held es) r q ∙ z
    there q false z = z

-- listed is what has some hold
pub lists-is : (es : List Entry) (r : ℕ) → Some es → lists es r ≡ ltb 0 (hold_on es r).hold
lists-is es r s = go (lists es r) refl
  where
    go : (b : Bool) → lists es r ≡ b → b ≡ ltb 0 (hold_on es r).hold
    go true e = sym (lt-ltb 0 (hold_on es r).hold (listed es r s e).0)
    go false e = rw (unlisted es r e)

-- A HOLD after each was changed and what is at zero was freed
module _ (f : Entry → Entry) (same : (e : Entry) → (f e).resource ≡ e.resource) (es : List Entry) (a : Distinct es) (r : ℕ) where
  pub after-listed : lists es r ≡ true → hold_on (still_held (map f es)) r ≡ cond (lasting (f (hold_on es r))) (f (hold_on es r)) no_entry
  after-listed y = hold-kept (map f es) r (distinct-map f same es a) ∙ ap (λ (e : Entry). cond (lasting e) e no_entry) (hold-map f same es r y)

  pub after-unlisted : lists es r ≡ false → hold_on (still_held (map f es)) r ≡ no_entry
  after-unlisted n = unlisted (still_held (map f es)) r (unlisted-kept (map f es) r (lists-map f same es r ∙ n))
