-- The part of a member of a chain, however it is reckoned: how long it takes, and how far it goes.
use Rattle.std.specs.Prelude.{◌≡◌, Bool, ◌&&◌, cond, List, ℕ, suc, ◌+◌, ◌≤◌, eqb, ltb, ℤ, pos, ◌+ℤ◌, get_or, Option, None, Some}
use Rattle.std.proofs.Math.Path.{refl, sym}
use Rattle.std.proofs.Common.{subst, ◌∙◌}
use Rattle.std.proofs.Math.Bool.{true, false}
use native.Mathlib.Omega.{arith}
use borrow.Author.Tests.{eq-eqb, ne_eqb}
use Rattle.std.proofs.Math.IntN.{nat_abs, +ℤ_idr}
use Rattle.laws.proofs.Signed.{abs-add}
use Rattle.curve.specs.Worth.{defined, amount}
use Rattle.gus.specs.declared.Course.{Course}
use Rattle.gus.specs.declared.Part.{Part}
use Rattle.gus.specs.View.{View}
use Rattle.gus.specs.Course.{span, whole, earned, onward, to_free, to_end}
use Rattle.gus.specs.Group.{part_of}
use Rattle.planner.specs.Bounds.{Modest, Short, short, Small}

-- how long the member at place k of 32 takes in the mode b: until what the next one requests is free, and the last one to its end
abbrev pub span_at : View → List ℕ → ℕ → Bool → ℕ
span_at v members k b = cond (ltb k 31) (span v b (get_or members (k + 1) 0)) (whole v b (get_or members k 0))

-- that member is job i, and in its own mode b it takes n
pub record Own (v : View) (members : List ℕ) (k i : ℕ) (b : Bool) (n : ℕ) : Type 0 where
  pub job : i ≡ get_or members k 0
  pub mode : b ≡ v.rolling i
  pub span : n ≡ span_at v members k b

-- its part
abbrev pub part_at : View → List ℕ → ℕ → Bool → Part
part_at v members k b = part_of (get_or members k 0) b (span_at v members k b)

either : (b : Bool) (p q : ℕ) → p ≤ 65535 → q ≤ 65535 → cond b p q ≤ 65535
either true p q h l = h
either false p q h l = l

module _ (v : View) (s : Short v) where
  free-short : (b : Bool) (x : ℕ) → span v b x ≤ 65535
  free-short b x = either b _ _ (s.undo x) (s.hold x)

  end_short : (b : Bool) (i : ℕ) → whole v b i ≤ 65535
  end_short b i = either b _ _ (s.rollback i) (s.run i)

  pub span-short : (members : List ℕ) (k : ℕ) (b : Bool) → span_at v members k b ≤ 65535
  span-short members k b = either (ltb k 31) _ _ (free-short b _) (end_short b _)

-- what a part earns, mode by mode
module _ (v : View) where
  -- where rollback is worth 0 at any time, to roll back earns 0, all of it or not
  pub earned-back : ((i m : ℕ) → v.worth true i m ≡ Some (pos 0)) → (i n moment : ℕ) → Some (pos 0) ≡ earned v i true n moment
  unfolding earned
  earned-back z i n moment = by (eqb n (v.rollback i))
    where
      by : (all : Bool) → Some (pos 0) ≡ elim all as (λ _. Option ℤ) [ true ↦ v.worth true i moment | false ↦ Some (pos 0) ]
      by true = sym (z i moment)
      by false = refl

  -- a run of all its run time left earns its worth, and a shorter one 0
  pub earned-all : (i n moment : ℕ) → n ≡ v.run i → v.worth false i moment ≡ earned v i false n moment
  unfolding earned
  earned-all i n moment e = rw (earned, eq-eqb n (v.run i) e)

  pub earned-less : (i n moment : ℕ) → (n ≡ v.run i → ⊥) → Some (pos 0) ≡ earned v i false n moment
  unfolding earned
  earned-less i n moment e = rw (earned, ne_eqb n (v.run i) e)

-- the course after a part, by what it earns: none, or a number
module _ (v : View) (t i : ℕ) (b : Bool) (n : ℕ) (c : Course) where
  pub onward-none : None ≡ earned v i b n (t + (c.time + n)) → record { time = c.time + n; gain = c.gain; inside = false } ≡ onward v t i b n c
  unfolding onward
  onward-none e = (λ d. record { time = c.time + n; gain = sym (+ℤ_idr c.gain) d; inside = false }) ∙ (λ d. record { time = c.time + n; gain = c.gain +ℤ amount (e d); inside = defined (e d) && c.inside })

  pub onward-some : (z sum : ℤ) → Some z ≡ earned v i b n (t + (c.time + n)) → sum ≡ c.gain +ℤ z → record { time = c.time + n; gain = sum; inside = c.inside } ≡ onward v t i b n c
  unfolding onward
  onward-some z sum e f = (λ d. record { time = c.time + n; gain = f d; inside = c.inside }) ∙ (λ d. record { time = c.time + n; gain = c.gain +ℤ amount (e d); inside = defined (e d) && c.inside })

-- whatever a part earns, it is at most a million
module _ (v : View) (m : Modest v) where
  pub earned-small : (i : ℕ) (b : Bool) (n moment : ℕ) → nat_abs (amount (earned v i b n moment)) ≤ 1000000
  unfolding earned
  earned-small i b n moment = by (eqb n (whole v b i))
    where
      by : (all : Bool) → nat_abs (amount (elim all as (λ _. Option ℤ) [ true ↦ v.worth b i moment | false ↦ Some (pos 0) ])) ≤ 1000000
      by true = m.worth b i moment
      by false = omega arith

  pub credit-small : (i : ℕ) (b : Bool) (n moment : ℕ) (z : ℤ) → Some z ≡ earned v i b n moment → nat_abs z ≤ 1000000
  credit-small i b n moment z e = subst (λ (w : Option ℤ). nat_abs (amount w) ≤ 1000000) (sym e) (earned-small i b n moment)

  module _ (t i : ℕ) where
    pub small-onward : (b : Bool) (n k : ℕ) (c : Course) → n ≤ 65535 → Small k c → Small (suc k) (onward v t i b n c)
    unfolding onward
    small-onward b n k c h s = record {
      time = omega arith;
      gain = omega (arith, earned-small i b n (t + (c.time + n)), abs-add c.gain (amount (earned v i b n (t + (c.time + n)))));
    }

    pub small-to-free : (x : ℕ) (b : Bool) (k : ℕ) (c : Course) → Small k c → Small (suc k) (to_free v t i x b c)
    unfolding to_free
    small-to-free x b k c s = small-onward b _ k c (free-short v (short m) b x) s

    pub small-to-end : (k : ℕ) (c : Course) → Small k c → Small (suc k) (to_end v t i c)
    unfolding to_end
    small-to-end k c s = small-onward (v.rolling i) _ k c (end_short v (short m) (v.rolling i) i) s
