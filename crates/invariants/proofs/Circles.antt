-- What rests on specs/Circles.antt.
use Prim.Native.Nat.{ℕ, ◌≤◌}
use Rattle.std.proofs.Common.{arith, sym}
use Rattle.std.specs.Prelude.{◌≡◌}
use Rattle.laws.specs.Circle.{OnCircle, Reaches, reaches-trans, reaches-back, circle-of-reached}
use Rattle.gus.specs.Victims.{circle_of}
use Rattle.invariants.specs.Circles.{lowest-le, lowest-reached}

module _ {f : ℕ → ℕ} where
  -- and it is the same for all members
  pub lowest-same : {i j : ℕ} → OnCircle f 32 i → Reaches f 32 i j → circle_of f i ≡ circle_of f j
  lowest-same {i} {j} c r =
      let d : OnCircle f 32 j = circle-of-reached c r in
      let one : circle_of f i ≤ circle_of f j = lowest-le c (reaches-trans r (lowest-reached d)) in
      let two : circle_of f j ≤ circle_of f i = lowest-le d (reaches-trans (reaches-back c r) (lowest-reached c)) in
      omega arith

  pub lowest-lowest : {i : ℕ} → OnCircle f 32 i → circle_of f (circle_of f i) ≡ circle_of f i
  lowest-lowest c = sym (lowest-same c (lowest-reached c))
