-- A job's record passes exactly when it keeps its rules.
use Rattle.std.specs.Prelude.{ℕ, ◌+◌, ◌<◌, ◌≤◌, Bool, List, length, get_or}
use Rattle.std.proofs.Common.{arith}
use Rattle.std.proofs.Math.Path.{◌≡◌, refl}
use Rattle.std.proofs.Math.Bool.{true, false, cond}
use Rattle.std.proofs.Math.Dec.{eqb}
use borrow.Author.Tests.{eq-eqb, eqb-true, eqb-false}
use Rattle.laws.specs.Listed.{listed_at, length-listed}
use Rattle.job.specs.declared.Request.{Request}
use Rattle.book.specs.Read.{RecordRead}
use Rattle.cursor.specs.Field.{value_at}
use Rattle.book.specs.Rules.{mode_ok}
use Rattle.book.specs.Format.{no_entry}
use Rattle.accepted.specs.Fields.{Onward, Passes}
use Rattle.accepted.specs.Layout.{Bytes, request_at, curve_place, record_at, record_end, held_at, job_place}
use Rattle.accepted.specs.Rules.{RollbackTime, NoRequest, GoodRequest, nothing, asks}
use Rattle.laws.specs.Holders.{Agree}
use Rattle.accepted.specs.Kept.{RecordKept, held_of, holds_of}
use Rattle.accepted.specs.HeldLists.{HeldKept}
use Rattle.accepted.specs.Curves.{CurvePasses, curve-good, curve-passes}

-- ---- MODE
module _ (mode rollback resource : ℕ) where
  mode-ok : mode ≤ 1 → (mode ≡ 1 → resource ≡ 255) → (mode ≡ 1 → rollback ≡ 65535 → ⊥) → mode_ok mode rollback resource ≡ true
  unfolding mode_ok
  mode-ok top a b = go (eqb mode 0) (eqb rollback 65535) refl refl
    where
      go : (x y : Bool) → eqb mode 0 ≡ x → eqb rollback 65535 ≡ y → cond x true (cond y false (eqb resource 255)) ≡ true
      go true y p q = refl
      go false true p q = absurd (b (omega (arith, eqb-false mode 0 p)) (eqb-true rollback 65535 q))
      go false false p q = eq-eqb resource 255 (a (omega (arith, eqb-false mode 0 p)))

  ok-mode : mode_ok mode rollback resource ≡ true → mode ≡ 1 → (resource ≡ 255) × (rollback ≡ 65535 → ⊥)
  unfolding mode_ok
  ok-mode h one = go (eqb rollback 65535) refl (rw one at h)
    where
      go : (y : Bool) → eqb rollback 65535 ≡ y → cond y false (eqb resource 255) ≡ true → (resource ≡ 255) × (rollback ≡ 65535 → ⊥)
      go true q h' = absurd (let z : ◌≡◌ {A = ℕ} 0 1 = cc in omega arith)
      go false q h' = (eqb-true resource 255 h', eqb-false rollback 65535 q)

-- ---- the record of job i: its fields pass
pub record RecordPasses (s : List ℕ) (i resources p : ℕ) : Type 0 where
  pub mode : Passes s 1 0 1 p
  pub run : Passes s 2 1 60000 (p + 1)
  pub back_fits : p + 3 + 2 ≤ length s
  pub rollback : RollbackTime (value_at s (p + 3) 2)
  pub asked_fits : p + 5 + 5 ≤ length s
  pub request : GoodRequest resources (value_at s (p + 1) 2) (request_at s (p + 5))
  pub held : HeldKept s i resources (value_at s (p + 1) 2) (value_at s (p + 3) 2)
  pub curve : CurvePasses s (curve_place s p)
  pub rolling : mode_ok (value_at s p 1) (value_at s (p + 3) 2) (value_at s (p + 5) 1) ≡ true

-- the record is read
pub record RecordGot (s : List ℕ) (i : ℕ) (o : RecordRead) : Type 0 where
  pub going : Onward o.reading (record_end s (job_place s i))
  pub job : o.job ≡ record_at s (job_place s i)
  pub agree : Agree (holds_of s) (held_of s) i (holds_of s i) o.holders

-- ---- and they pass exactly when the record keeps its rules
module _ (s : List ℕ) (i resources : ℕ) where
  entry-is : holds_of s i ≤ 32 → (k : ℕ) → k < holds_of s i → get_or (record_at s (job_place s i)).held k no_entry ≡ held_at s (job_place s i) k
  entry-is few k h = listed_at 32 no_entry (held_at s (job_place s i)) (holds_of s i) k few h

  no-request : {run : ℕ} {q : Request} → resources ≤ 32 → GoodRequest resources run q → q.resource ≡ 255 → NoRequest q
  no-request few (nothing n) e = n
  no-request few (asks q) e = absurd (omega (arith, q.below))

  pub record-good : resources ≤ 32 → RecordPasses s i resources (job_place s i) → RecordKept s resources i
  record-good few k =
      let p = job_place s i in
      let c = curve-good s (curve_place s p) k.curve in
      let rolling = ok-mode _ _ _ k.rolling in
      record {
        fits = c.fits;
        good = record {
          mode = k.mode.most;
          run_some = k.run.least;
          run_most = k.run.most;
          rollback = k.rollback;
          request = k.request;
          holds = k.held.few;
          size = length-listed 32 no_entry (held_at s p) (holds_of s i);
          entry = λ n h. rw (entry-is k.held.few n h) (k.held.each n h).good;
          curve = c.good;
          rolling_request = λ e. no-request few k.request (rolling e).0;
          rolling_rollback = λ e. (rolling e).1;
        };
        once = k.held.once;
      }

  pub record-passes : Bytes s → RecordKept s resources i → RecordPasses s i resources (job_place s i)
  record-passes b k =
      let p = job_place s i in
      let g = k.good in
      let few = g.holds in
      let f : record_end s p ≤ length s = k.fits in
      record {
        mode = record { fits = omega arith; least = omega arith; most = g.mode };
        run = record { fits = omega arith; least = g.run_some; most = g.run_most };
        back_fits = omega arith;
        rollback = g.rollback;
        asked_fits = omega arith;
        request = g.request;
        held = record {
          fits = omega arith;
          few = few;
          each = λ n h. record { fits = omega arith; good = rw (entry-is few n h) at (g.entry n h) };
          once = k.once;
        };
        curve = curve-passes s (curve_place s p) b (record { fits = f; good = g.curve });
        rolling = mode-ok _ _ _ g.mode (λ e. (g.rolling_request e).none) g.rolling_rollback;
      }
