-- What the caller has of the array of victims: they are those of the definition, and each is a job.
use Rattle.std.specs.Prelude.{◌≡◌, Bool, eqb, replicate}
use Rattle.std.proofs.Common.{◌∙◌}
use Rattle.std.proofs.Math.Bool.{true, false}
use mathlib.Core.List.{List, [], ◌∷◌, ◌++◌}
use Prim.Native.Nat.{ℕ, zero, suc, ◌-◌, ◌<◌}
use native.Mathlib.Omega.{arith}
use Rattle.std.proofs.Math.ListN.{length, get_or, length-append, length-replicate}
use Rattle.std.proofs.Math.Seq.{take-append_seam}
use Rattle.laws.specs.Fill.{padded}
use Rattle.gus.specs.View.{View}
use Rattle.gus.specs.Victims.{circle_of, victim_of, victims_to, victims_of}
use Rattle.planner.specs.Offering.{victim-below}
use Rattle.laws.specs.Placed.{zeros-below}
use Rattle.planner.specs.Listing.{listed, few}
use Rattle.planner.specs.Settling.{Handed, victims_in}

append-below : (l m : List ℕ) → ((k : ℕ) → get_or l k 0 < 32) → ((k : ℕ) → get_or m k 0 < 32) → (k : ℕ) → get_or (l ++ m) k 0 < 32
append-below [] m p q k = q k
append-below (x ∷ l) m p q zero = p 0
append-below (x ∷ l) m p q (suc k) = append-below l m (λ j. p (suc j)) q k

module _ (v : View) (t : ℕ) where
  pub listed-victims : victims_in (listed v t) ≡ victims_of v t
  unfolding listed padded
  listed-victims = take-append_seam (victims_of v t) _

  victims-below : (n k : ℕ) → get_or (victims_to v t n) k 0 < 32
  unfolding victims_to
  victims-below zero k = omega arith
  victims-below (suc n) k = append-below (victims_to v t n) _ (victims-below n) (by (eqb (circle_of v.waits n) n)) k
    where
      by : (b : Bool) (j : ℕ) → get_or {A = ℕ} (elim b [ true ↦ (victim_of v t n).last ∷ [] | false ↦ [] ]) j 0 < 32
      by true zero = victim-below v t n
      by true (suc j) = omega arith
      by false j = omega arith

  pub listed-handed : Handed (listed v t)
  unfolding listed victims_of padded
  listed-handed =
      let free : ℕ = 32 - length (victims_to v t 32) in
      record {
        size = length-append (victims_to v t 32) (replicate free 0) ∙ omega (arith, length-replicate {A = ℕ} free 0, few v t 32);
        few = few v t 32;
        jobs = append-below (victims_to v t 32) (replicate free 0) (victims-below 32) (zeros-below 32 free (omega arith)).below;
      }
