-- What rests on proofs/Knot.antt.
use Prim.Native.Nat.{ℕ, ◌<◌}
use Rattle.std.specs.Prelude.{◌↔◌}
use Rattle.std.proofs.Math.Logic.{inl, inr}
use Rattle.gus.specs.View.{View}
use Rattle.gus.specs.Victims.{knot_of}
use Rattle.invariants.specs.Knot.{Knotted, knotted-none}
use Rattle.laws.specs.Search.{lt-or-le}
use Rattle.invariants.proofs.Knot.{knot-is, knot-none}

module _ (v : View) (t : ℕ) where
  -- there is one exactly if some job is on such a circle
  pub knot-exactly : (knot_of v t < 32) ↔ ((i : ℕ) × Knotted v i)
  knot-exactly = (
    λ l. (knot_of v t, ((knot-is v t) l).0),
    λ x. elim (lt-or-le (knot_of v t) 32) [ inl l ↦ l | inr l ↦ absurd ((knotted-none v t) x.1 ((knot-none v t) l x.0 x.1.on)) ],
  )
