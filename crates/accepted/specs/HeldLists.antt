-- A held list passes exactly when it keeps its rules.
use Rattle.std.specs.Prelude.{ℕ, suc, ◌+◌, ◌<◌, ◌≤◌, ◌≡◌, Bool, List, get_or, replicate}
use native.Mathlib.Omega.{arith}
use Rattle.std.proofs.Math.Path.{refl}
use Rattle.std.proofs.Common.{sym, ◌∙◌}
use Rattle.std.proofs.Math.Bool.{true, false, cond}
use Rattle.std.proofs.Math.ListN.{length}
use Rattle.std.proofs.Math.Dec.{ltb, eqb}
use borrow.Author.Tests.{lt-ltb, eq-eqb, ltb-true, eqb-true}
use Rattle.laws.specs.Count.{upto, upto-each}
use Rattle.laws.specs.Listed.{listed, listed-none, listed_next}
use Rattle.cursor.specs.Reading.{Reading}
use Rattle.book.specs.Read.{HeldList}
use Rattle.cursor.specs.Refusal.{RANGE, TWICE}
use Rattle.cursor.specs.Field.{value_at, got_at}
use Rattle.book.specs.Rules.{least_rollback}
use Rattle.book.specs.Format.{no_entry, unheld_read, held_resource, entry_read, entry_next}
use Rattle.accepted.specs.Fields.{Onward, Passes, onward, field-got, ruled_of, ruled-got, ruled-back, rule-kept, rule-passed}
use Rattle.accepted.specs.Layout.{entry_place, entry_at, held_at, job_place}
use Rattle.accepted.specs.Rules.{GoodEntry}
use Rattle.laws.specs.Inside.{inside}
use Rattle.laws.specs.Holders.{Before, Agree, agree-entry}
use Rattle.accepted.specs.Kept.{held_of, holds_of}

-- ---- one entry: its fields pass,
pub record EntryPasses (s : List ℕ) (resources run rollback p : ℕ) : Type 0 where
  pub resource : Passes s 1 0 255 p
  pub below : value_at s p 1 < resources
  pub hold : Passes s 2 1 run (p + 1)
  pub back : Passes s 2 (least_rollback rollback) rollback (p + 3)

-- exactly when the entry is good,
pub record EntryKept (s : List ℕ) (resources run rollback p : ℕ) : Type 0 where
  pub fits : p + 5 ≤ length s
  pub good : GoodEntry resources run rollback (entry_at s p)

module _ (s : List ℕ) (resources run rollback p : ℕ) where
  pub entry-passes : resources ≤ 32 → rollback ≤ 65535 → EntryKept s resources run rollback p → EntryPasses s resources run rollback p
  unfolding least_rollback
  entry-passes few top k =
      record {
        resource = omega arith;
        below = k.good.below;
        hold = omega arith;
        back = record { fits = omega arith; least = go (eqb rollback 65535) refl; most = k.good.back_most };
      }
    where
      go : (b : Bool) → eqb rollback 65535 ≡ b → cond b 65535 1 ≤ value_at s (p + 3) 2
      go true e = omega (arith, k.good.back_never (eqb-true _ _ e))
      go false e = k.good.back_some

  pub entry-good : rollback ≤ 65535 → EntryPasses s resources run rollback p → EntryKept s resources run rollback p
  unfolding least_rollback
  entry-good top k = record {
    fits = omega arith;
    good = record {
      below = k.below;
      some = k.hold.least;
      most = k.hold.most;
      back_some = go (eqb rollback 65535) refl k.back.least;
      back_most = k.back.most;
      back_never = λ e. let l : 65535 ≤ value_at s (p + 3) 2 = rw e at k.back.least in omega arith;
      never_only = λ e. let l = k.back.most in omega arith;
    };
  }
    where
      go : (b : Bool) → eqb rollback 65535 ≡ b → cond b 65535 1 ≤ value_at s (p + 3) 2 → 1 ≤ value_at s (p + 3) 2
      go true e h = omega arith
      go false e h = h

-- and, where nobody holds its resource, exactly then it is read
module _ (s : List ℕ) (resources : ℕ) (holders : List ℕ) (r : Reading) (p : ℕ) (o : Onward r p) where
  pub resource-got : Passes s 1 0 255 p → value_at s p 1 < resources → get_or holders (value_at s p 1) 0 ≡ 255 → held_resource s resources holders r ≡ got_at p 1 (value_at s p 1)
  unfolding held_resource unheld_read
  resource-got k l f =
      rw (ruled-got s 1 0 255 RANGE (λ v. ltb v resources) r p o k (lt-ltb _ _ l))
      (rule-kept (eqb (get_or holders (value_at s p 1) 0) 255) TWICE p (got_at p 1 (value_at s p 1)) refl (eq-eqb _ _ f))

  pub resource-back : (held_resource s resources holders r).number ≡ 0 → Passes s 1 0 255 p × (value_at s p 1 < resources) × (get_or holders (value_at s p 1) 0 ≡ 255)
  unfolding held_resource unheld_read
  resource-back h =
      let a = ruled_of s 1 0 255 RANGE (λ v. ltb v resources) r in
      let k = ruled-back s 1 0 255 RANGE (λ v. ltb v resources) r p o (omega arith) (rule-passed (eqb (get_or holders a.value 0) 255) TWICE a.place a (omega arith) h).was in
      let z = ruled-got s 1 0 255 RANGE (λ v. ltb v resources) r p o k.0 k.1 in
      (k.0, ltb-true _ _ k.1, eqb-true _ _ (rule-passed (eqb (get_or holders (value_at s p 1) 0) 255) TWICE p (got_at p 1 (value_at s p 1)) (omega arith) (rw z at h)).holds)

module _ (s : List ℕ) (resources run rollback : ℕ) (holders : List ℕ) (r : Reading) (p : ℕ) (o : Onward r p) where
  entry-got : EntryPasses s resources run rollback p → get_or holders (value_at s p 1) 0 ≡ 255 → entry_read s resources run rollback holders r ≡ record { reading = got_at (p + 3) 2 (value_at s (p + 3) 2); entry = entry_at s p }
  unfolding entry_read
  entry-got k f =
      let e1 = resource-got s resources holders r p o k.resource k.below f in
      let e2 = field-got s 2 1 run RANGE (got_at p 1 (value_at s p 1)) (p + 1) (onward refl refl) k.hold in
      let e3 = field-got s 2 (least_rollback rollback) rollback RANGE (got_at (p + 1) 2 (value_at s (p + 1) 2)) (p + 3) (onward refl (omega arith)) k.back in
      rw (e1, e2, e3)

-- ---- the list of job i
pub record HeldKept (s : List ℕ) (i resources run rollback : ℕ) : Type 0 where
  pub fits : job_place s i + 10 + 1 ≤ length s
  pub few : holds_of s i ≤ 32
  pub each : (k : ℕ) → k < holds_of s i → EntryKept s resources run rollback (entry_place (job_place s i + 10) k)
  pub once : (m j k : ℕ) → m < holds_of s i → Before (holds_of s) i m j k → held_of s j k ≡ held_of s i m → ⊥

-- its first m entries are read
pub record Listed (s : List ℕ) (i m : ℕ) (h : HeldList) : Type 0 where
  pub going : Onward h.reading (entry_place (job_place s i + 10) m)
  pub holds : h.holds ≡ holds_of s i
  pub held : h.held ≡ listed 32 no_entry (held_at s (job_place s i)) m
  pub agree : Agree (holds_of s) (held_of s) i m h.holders

module _ (s : List ℕ) (i resources run rollback : ℕ) (job : i < 32) (few : resources ≤ 32) (top : rollback ≤ 65535) where
  -- one more
  listed_more : (m : ℕ) (h : HeldList) → Listed s i m h → EntryPasses s resources run rollback (entry_place (job_place s i + 10) m) → get_or h.holders (held_of s i m) 0 ≡ 255 → Listed s i (suc m) (entry_next s i resources run rollback m h)
  unfolding entry_next
  listed_more m h l k f =
      let low = k.below in
      let size = l.agree.size in
      let room : held_of s i m < length h.holders = omega arith in
      rw (entry-got s resources run rollback h.holders h.reading (entry_place (job_place s i + 10) m) l.going k f)
      (record {
        going = onward refl (omega arith);
        holds = l.holds;
        held = rw l.held (sym (listed_next 32 no_entry (held_at s (job_place s i)) m));
        agree = agree-entry (holds_of s) (held_of s) i m h.holders l.agree job (omega arith) (inside h.holders (held_of s i m) 255 0 room ∙ f);
      })

  module _ (holders : List ℕ) (a : Agree (holds_of s) (held_of s) i 0 holders) where
    -- where the list begins
    abbrev pub list_start : HeldList
    list_start = record { reading = got_at (job_place s i + 10) 1 (holds_of s i); holds = holds_of s i; held = replicate 32 no_entry; holders = holders }

    abbrev pub read : ℕ → HeldList
    read m = upto (entry_next s i resources run rollback) m list_start

    listed-first : Listed s i 0 list_start
    listed-first = record { going = onward refl (omega arith); holds = refl; held = sym (listed-none 32 no_entry (held_at s (job_place s i))); agree = a }

    -- what entry m is to be when the entries before it are read
    abbrev pub Next : ℕ → Type 0
    Next m = EntryPasses s resources run rollback (entry_place (job_place s i + 10) m) × (get_or (read m).holders (held_of s i m) 0 ≡ 255)

    pub listed-all : ((m : ℕ) → m < holds_of s i → Listed s i m (read m) → Next m) → (m : ℕ) → m ≤ holds_of s i → Listed s i m (read m)
    listed-all k = upto-each (Listed s i) (entry_next s i resources run rollback) (holds_of s i) list_start listed-first (λ m h l. let z = k m h l in listed_more m (read m) l z.0 z.1)

    -- a resource of the book has a place among the holders, whatever stands past their end
    pub same-holder : (m d e : ℕ) → Agree (holds_of s) (held_of s) i m (read m).holders → held_of s i m < resources → get_or (read m).holders (held_of s i m) d ≡ get_or (read m).holders (held_of s i m) e
    same-holder m d e g low = let size = g.size in inside (read m).holders (held_of s i m) d e (omega arith)
