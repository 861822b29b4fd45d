-- The rules of 01's "Numbers" and "The job book" for one job's record, each said of its value.
use Rattle.std.specs.Prelude.{ℕ, ◌<◌, ◌≤◌, ◌≡◌, nat_abs, length, get_or}
use Rattle.std.proofs.Common.{arith}
use Rattle.curve.specs.Curve.{Curve}
use Rattle.curve.specs.Bound.{Allowed, piece_of}
use Rattle.job.specs.declared.Request.{Request}
use Rattle.book.specs.declared.Entry.{Entry}
use Rattle.book.specs.Read.{Record}
use Rattle.book.specs.Format.{no_entry}

-- "Rollback time: 1 to 30,000, or 65,535, the never mark"
pub data RollbackTime (v : ℕ) : Type 0 where
  some : 1 ≤ v → v ≤ 30000 → RollbackTime v
  never : v ≡ 65535 → RollbackTime v

pub rollback_some : {v : ℕ} → RollbackTime v → 1 ≤ v
rollback_some (some a b) = a
rollback_some (never e) = omega arith

pub rollback_most : {v : ℕ} → RollbackTime v → v ≤ 65535
rollback_most (some a b) = omega arith
rollback_most (never e) = omega arith

-- "with 255 both are 0"
pub record NoRequest (q : Request) : Type 0 where
  pub none : q.resource ≡ 255
  pub hold : q.hold ≡ 0
  pub rollback : q.rollback ≡ 0

-- "A resource number is below the resource count. A request's hold is 1 to the run time left, its rollback 1 to 30,000 or never"
pub record Asks (resources run : ℕ) (q : Request) : Type 0 where
  pub below : q.resource < resources
  pub some : 1 ≤ q.hold
  pub most : q.hold ≤ run
  pub rollback : RollbackTime q.rollback

pub data GoodRequest (resources run : ℕ) (q : Request) : Type 0 where
  nothing : NoRequest q → GoodRequest resources run q
  asks : Asks resources run q → GoodRequest resources run q

-- "A held hold is 1 to the run time left. A held rollback is 1 to the job's rollback time, or never exactly when the job's is never"
pub record GoodEntry (resources run rollback : ℕ) (e : Entry) : Type 0 where
  pub below : e.resource < resources
  pub some : 1 ≤ e.hold
  pub most : e.hold ≤ run
  pub back_some : 1 ≤ e.rollback
  pub back_most : e.rollback ≤ rollback
  pub back_never : rollback ≡ 65535 → e.rollback ≡ 65535
  pub never_only : e.rollback ≡ 65535 → rollback ≡ 65535

-- "Starts rise strictly, up to 2,147,483,647; termination is from the last start to 2,147,483,647"; "Slopes: -1,000 to 1,000"
pub record AllowedCurve (c : Curve) : Type 0 where
  pub allowed : Allowed c
  pub size : length c.pieces ≡ 8
  pub soon : (i : ℕ) → i < c.count → (piece_of c i).start ≤ 2147483647
  pub gentle : (i : ℕ) → i < c.count → nat_abs (piece_of c i).slope ≤ 1000
  pub end_soon : c.end ≤ 2147483647

pub record GoodRecord (resources : ℕ) (x : Record) : Type 0 where
  pub mode : x.mode ≤ 1
  pub run_some : 1 ≤ x.run
  pub run_most : x.run ≤ 60000
  pub rollback : RollbackTime x.rollback
  pub request : GoodRequest resources x.run x.request
  pub holds : x.holds ≤ 32
  pub size : length x.held ≡ 32
  pub entry : (k : ℕ) → k < x.holds → GoodEntry resources x.run x.rollback (get_or x.held k no_entry)
  pub curve : AllowedCurve x.curve
  pub rolling_request : x.mode ≡ 1 → NoRequest x.request
  pub rolling_rollback : x.mode ≡ 1 → x.rollback ≡ 65535 → ⊥
