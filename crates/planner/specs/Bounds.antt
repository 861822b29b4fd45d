-- How far times and gains go: each job of a chain adds at most 65,535 milliseconds and a million.
use Rattle.std.specs.Prelude.{ℕ, ◌*◌, ◌≤◌, nat_abs}
use Rattle.std.proofs.Common.{arith}
use Rattle.gus.specs.declared.Course.{Course}
use Rattle.gus.specs.View.{View}
use Rattle.gus.specs.Course.{start}
pub use Rattle.opening.specs.Modest.{Modest}

-- every time of a view fits in 16 bits
pub record Short (v : View) : Type 0 where
  pub undo : (x : ℕ) → v.undo x ≤ 65535
  pub hold : (x : ℕ) → v.hold x ≤ 65535
  pub rollback : (i : ℕ) → v.rollback i ≤ 65535
  pub run : (i : ℕ) → v.run i ≤ 65535

pub short : {v : View} → Modest v → Short v
short m = record { undo = m.undo; hold = m.hold; rollback = m.rollback; run = m.run }

-- a planned moment: what 32 jobs make can still be added to it in 32 bits
abbrev pub Planned : ℕ → Type 0
Planned t = t ≤ 4000000000

-- what at most k jobs make
pub record Small (k : ℕ) (c : Course) : Type 0 where
  pub time : c.time ≤ k * 65535
  pub gain : nat_abs c.gain ≤ k * 1000000

pub small-more : {j k : ℕ} {c : Course} → j ≤ k → Small j c → Small k c
small-more h s = record { time = omega arith; gain = omega arith }

pub small-start : {k : ℕ} → Small k start
small-start = record { time = omega arith; gain = omega arith }
