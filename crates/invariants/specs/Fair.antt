-- A fair way of choosing a mode: it never takes a job out of rollback and never rolls a never job back. 01's way is fair.
use Rattle.std.specs.Prelude.{ℕ, ◌≡◌, true, false, List}
use Rattle.std.proofs.Common.{eq-eqb}
use Rattle.job.specs.Times.{never}
use Rattle.gus.specs.declared.Course.{Course}
use Rattle.gus.specs.View.{View}
use Rattle.gus.specs.Choice.{Way, by_density}

pub record Fair (way : Way) : Type 0 where
  pub keeps : (v : View) (t i k : ℕ) (ks : List ℕ) (c : Course) → v.rolling i ≡ true → way v t i k ks c ≡ true
  pub spares : (v : View) (t i k : ℕ) (ks : List ℕ) (c : Course) → v.rolling i ≡ false → v.rollback i ≡ never → way v t i k ks c ≡ false

pub by-density-fair : Fair by_density
unfolding by_density
by-density-fair = record {
  keeps = λ v t i k ks c e. rw (e, by_density);
  spares = λ v t i k ks c e n. rw (e, eq-eqb (v.rollback i) never n, by_density);
}
