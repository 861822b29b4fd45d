-- How far the numbers of a view go, at every moment of a plan.
use Rattle.std.specs.Prelude.{ℕ, ◌≤◌, Bool, List, nat_abs}
use Rattle.std.proofs.Common.{arith}
use Rattle.curve.specs.Worth.{amount}
use Rattle.job.specs.declared.Job.{Job}
use Rattle.gus.specs.State.{job_at}
use Rattle.gus.specs.Waits.{waits_for}
use Rattle.gus.specs.View.{Pay, View, view_of}
use Rattle.invariants.specs.Sound.{Sound}
use Rattle.invariants.specs.End.{Small}

-- no time is longer than the never mark, no worth more than a million
pub record Modest (v : View) : Type 0 where
  pub hold : (i : ℕ) → v.hold i ≤ 65535
  pub undo : (i : ℕ) → v.undo i ≤ 65535
  pub run : (i : ℕ) → v.run i ≤ 65535
  pub rollback : (i : ℕ) → v.rollback i ≤ 65535
  pub worth : (b : Bool) (i t : ℕ) → nat_abs (amount (v.worth b i t)) ≤ 1000000

pub modest : (pay : Pay) {js : List Job} → ((b : Bool) (i t : ℕ) → nat_abs (amount (pay b i t)) ≤ 1000000) → Sound js → Small js → Modest (view_of pay js)
modest pay {js} within s m = record {
  hold = λ i. omega (arith, (s.fit (waits_for js i)).holds (job_at js i).request.resource, m.run (waits_for js i));
  undo = λ i. omega (arith, (s.fit (waits_for js i)).rollbacks (job_at js i).request.resource, (s.fit (waits_for js i)).most);
  run = m.run;
  rollback = λ i. (s.fit i).most;
  worth = within;
}
