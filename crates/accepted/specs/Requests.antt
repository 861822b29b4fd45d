-- A rollback time and a request pass exactly when they keep their rules.
use Rattle.std.specs.Prelude.{ℕ, ◌+◌, ◌≤◌, ◌≡◌, Bool, cond, List, length, leb}
use native.Mathlib.Omega.{arith}
use Rattle.std.proofs.Math.Path.{refl}
use Rattle.std.proofs.Math.Bool.{true, false}
use Rattle.std.proofs.Math.Dec.{eqb}
use borrow.Author.Tests.{lt-ltb, le-leb, ne_eqb, ltb-true, leb-true, eqb-true}
use Rattle.cursor.specs.Reading.{Reading}
use Rattle.cursor.specs.Refusal.{RANGE}
use Rattle.cursor.specs.Field.{value_at, got_at}
use Rattle.book.specs.Rules.{rollback_ok, request_ok, if_requested}
use Rattle.book.specs.Format.{rollback_read, requested_resource, requested_rollback, request_read}
use Rattle.accepted.specs.Fields.{Onward, Passes, onward, field-got, ruled-got, ruled-back}
use Rattle.accepted.specs.Layout.{request_at}
use Rattle.accepted.specs.Rules.{RollbackTime, some, never, rollback_some, rollback_most, GoodRequest, nothing, asks}

-- ---- the tests
pub rollback-ok : {v : ℕ} → RollbackTime v → rollback_ok v ≡ true
unfolding rollback_ok
rollback-ok {v} (some a b) = rw (le-leb v 30000 b)
rollback-ok {v} (never e) = rw e

pub ok-rollback : (v : ℕ) → 1 ≤ v → rollback_ok v ≡ true → RollbackTime v
unfolding rollback_ok
ok-rollback v a h = go (leb v 30000) refl h
  where
    go : (b : Bool) → leb v 30000 ≡ b → cond b true (eqb v 65535) ≡ true → RollbackTime v
    go true e q = some a (leb-true v 30000 e)
    go false e q = never (eqb-true v 65535 q)

-- ---- a rollback time
module _ (s : List ℕ) (r : Reading) (p : ℕ) (o : Onward r p) where
  pub rollback-got : p + 2 ≤ length s → RollbackTime (value_at s p 2) → rollback_read s r ≡ got_at p 2 (value_at s p 2)
  unfolding rollback_read
  rollback-got f t = ruled-got s 2 1 65535 RANGE rollback_ok r p o (record { fits = f; least = rollback_some t; most = rollback_most t }) (rollback-ok t)

  pub rollback-back : (rollback_read s r).number ≡ 0 → (p + 2 ≤ length s) × RollbackTime (value_at s p 2)
  unfolding rollback_read
  rollback-back h = let k = ruled-back s 2 1 65535 RANGE rollback_ok r p o (omega arith) h in (k.0.fits, ok-rollback _ k.0.least k.1)

-- ---- a request: its fields pass,
pub record RequestPasses (s : List ℕ) (resources run p : ℕ) : Type 0 where
  pub resource : Passes s 1 0 255 p
  pub resource_ok : request_ok (value_at s p 1) resources ≡ true
  pub hold : Passes s 2 (if_requested (value_at s p 1) 1) (if_requested (value_at s p 1) run) (p + 1)
  pub rollback : Passes s 2 (if_requested (value_at s p 1) 1) (if_requested (value_at s p 1) 65535) (p + 3)
  pub back_ok : rollback_ok (value_at s (p + 3) 2) ≡ true

-- exactly when the request is good,
module _ (s : List ℕ) (resources run p : ℕ) where
  request-passes : resources ≤ 32 → p + 5 ≤ length s → GoodRequest resources run (request_at s p) → RequestPasses s resources run p
  unfolding request_ok if_requested rollback_ok
  request-passes few f (nothing g) =
      let e : value_at s p 1 ≡ 255 = g.none in
      let z : value_at s (p + 3) 2 ≡ 0 = g.rollback in
      record {
        resource = omega arith;
        resource_ok = rw e;
        hold = rw e (omega arith);
        rollback = rw e (omega arith);
        back_ok = rw z;
      }
  request-passes few f (asks g) =
      let e : eqb (value_at s p 1) 255 ≡ false = ne_eqb (value_at s p 1) 255 (λ z. let b = g.below in omega arith) in
      record {
        resource = omega arith;
        resource_ok = rw e (lt-ltb (value_at s p 1) resources g.below);
        hold = rw e (omega arith);
        rollback = rw e (omega (arith, rollback_some g.rollback, rollback_most g.rollback));
        back_ok = rollback-ok g.rollback;
      }

  pub request-good : RequestPasses s resources run p → (p + 5 ≤ length s) × GoodRequest resources run (request_at s p)
  unfolding request_ok if_requested
  request-good k = (omega arith, go (eqb (value_at s p 1) 255) refl)
    where
      go : (b : Bool) → eqb (value_at s p 1) 255 ≡ b → GoodRequest resources run (request_at s p)
      go true e =
          let h = rw e at k.hold in
          let b = rw e at k.rollback in
          nothing (record { none = eqb-true _ _ e; hold = omega arith; rollback = omega arith })
      go false e =
          let h = rw e at k.hold in
          let b = rw e at k.rollback in
          asks (record { below = ltb-true _ _ (rw e at k.resource_ok); some = h.least; most = h.most; rollback = ok-rollback _ b.least k.back_ok })

-- and exactly then it is read
module _ (s : List ℕ) (resources run : ℕ) (r : Reading) (p : ℕ) (o : Onward r p) where
  pub resource-got : Passes s 1 0 255 p → request_ok (value_at s p 1) resources ≡ true → requested_resource s resources r ≡ got_at p 1 (value_at s p 1)
  unfolding requested_resource
  resource-got k e = ruled-got s 1 0 255 RANGE (λ v. request_ok v resources) r p o k e

  pub resource-back : (requested_resource s resources r).number ≡ 0 → Passes s 1 0 255 p × (request_ok (value_at s p 1) resources ≡ true)
  unfolding requested_resource
  resource-back h = ruled-back s 1 0 255 RANGE (λ v. request_ok v resources) r p o (omega arith) h

module _ (s : List ℕ) (resource : ℕ) (r : Reading) (p : ℕ) (o : Onward r p) where
  back-got : Passes s 2 (if_requested resource 1) (if_requested resource 65535) p → rollback_ok (value_at s p 2) ≡ true → requested_rollback s resource r ≡ got_at p 2 (value_at s p 2)
  unfolding requested_rollback
  back-got k e = ruled-got s 2 _ _ RANGE rollback_ok r p o k e

  pub back-back : (requested_rollback s resource r).number ≡ 0 → Passes s 2 (if_requested resource 1) (if_requested resource 65535) p × (rollback_ok (value_at s p 2) ≡ true)
  unfolding requested_rollback
  back-back h = ruled-back s 2 _ _ RANGE rollback_ok r p o (omega arith) h

module _ (s : List ℕ) (resources run : ℕ) (r : Reading) (p : ℕ) (o : Onward r p) where
  passes-got : RequestPasses s resources run p → request_read s resources run r ≡ record { reading = got_at (p + 3) 2 (value_at s (p + 3) 2); request = request_at s p }
  unfolding request_read
  passes-got k =
      let e1 = resource-got s resources run r p o k.resource k.resource_ok in
      let e2 = field-got s 2 _ _ RANGE (got_at p 1 (value_at s p 1)) (p + 1) (onward refl refl) k.hold in
      let e3 = back-got s (value_at s p 1) (got_at (p + 1) 2 (value_at s (p + 1) 2)) (p + 3) (onward refl (omega arith)) k.rollback k.back_ok in
      rw (e1, e2, e3)

  pub request-got : resources ≤ 32 → p + 5 ≤ length s → GoodRequest resources run (request_at s p) → request_read s resources run r ≡ record { reading = got_at (p + 3) 2 (value_at s (p + 3) 2); request = request_at s p }
  request-got few f g = passes-got (request-passes s resources run p few f g)
