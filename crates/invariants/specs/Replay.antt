-- A REPLAY: every part of a row is proper where it starts. What it keeps, and what it pays.
use Rattle.std.specs.Prelude.{ℕ, ◌+◌, ◌≡◌, refl, Bool, true, false, ◌&&◌, cond, List, [], ◌∷◌, ◌++◌, eqb, ℤ, pos, ◌+ℤ◌, Option, Some}
use Rattle.std.proofs.Common.{arith, ap, ◌∙◌}
use Rattle.std.proofs.lemmas.Bool.{false≢true}
use Rattle.std.proofs.Math.IntN.{+ℤ_idl, +ℤ_assoc}
use Rattle.curve.specs.Worth.{defined, amount}
use Rattle.job.specs.declared.Job.{Job}
use Rattle.job.specs.Job.{left_in}
use Rattle.gus.specs.declared.Part.{Part}
use Rattle.gus.specs.State.{worked_by, after, after_all}
use Rattle.gus.specs.View.{Pay}
use Rattle.invariants.specs.Proper.{Proper}
use Rattle.invariants.specs.Runs.{Runs, last, next}

pub data Replay : List Job → List Part → Type 0 where
  over : {js : List Job} → Replay js []
  then : {js : List Job} {p : Part} {ps : List Part} → Proper js p → Replay (after js p) ps → Replay js (p ∷ ps)

pub runs-replay : {js₀ js : List Job} {ps : List Part} → Runs js₀ js ps → Replay js ps
runs-replay (last g e l) = then g over
runs-replay (next g e u r) = then g (runs-replay r)

pub replay-append : {js : List Job} {ps qs : List Part} → Replay js ps → Replay (after_all js ps) qs → Replay js (ps ++ qs)
unfolding after_all
replay-append over q = q
replay-append (then g r) q = then g (replay-append r q)

pub after-append : (js : List Job) (ps qs : List Part) → after_all js (ps ++ qs) ≡ after_all (after_all js ps) qs
unfolding after_all
after-append js [] qs = refl
after-append js (p ∷ ps) qs = after-append (after js p) ps qs

-- how long a row of parts takes
unfoldable pub lasts : List Part → ℕ
lasts [] = 0
lasts (p ∷ ps) = p.time + lasts ps

pub lasts-append : (ps qs : List Part) → lasts (ps ++ qs) ≡ lasts ps + lasts qs
unfolding lasts
lasts-append [] qs = omega arith
lasts-append (p ∷ ps) qs = omega (arith, lasts-append ps qs)

-- WHAT A PART EARNS that ends at a moment: one after which its job has nothing left in the part's mode is a finish, and earns what that is worth
-- at that moment, or none; any other earns 0
unfoldable pub earns : Pay → List Job → Part → ℕ → Option ℤ
earns pay js p moment = cond (eqb (left_in p.rolling (worked_by js p)) 0) (pay p.rolling p.job moment) (Some (pos 0))

-- "What the machine pays": the sum over a row of parts that starts at the moment t
unfoldable pub paid : Pay → List Job → ℕ → List Part → ℤ
paid pay js t [] = pos 0
paid pay js t (p ∷ ps) = amount (earns pay js p (t + p.time)) +ℤ paid pay (after js p) (t + p.time) ps

-- whether "every finish" of it "that earns from a curve is inside it"
unfoldable pub all_inside : Pay → List Job → ℕ → List Part → Bool
all_inside pay js t [] = true
all_inside pay js t (p ∷ ps) = defined (earns pay js p (t + p.time)) && all_inside pay (after js p) (t + p.time) ps

pub paid-append : (pay : Pay) (js : List Job) (t : ℕ) (ps qs : List Part) → paid pay js t (ps ++ qs) ≡ paid pay js t ps +ℤ paid pay (after_all js ps) (t + lasts ps) qs
unfolding paid after_all lasts
paid-append pay js t [] qs = let e : t + 0 ≡ t = omega arith in rw (e, +ℤ_idl)
paid-append pay js t (p ∷ ps) qs =
    let e : t + (p.time + lasts ps) ≡ t + p.time + lasts ps = omega arith in
    rw (e, paid-append pay (after js p) (t + p.time) ps qs, +ℤ_assoc)

-- of two that hold together each does
pub both : (a b : Bool) → a && b ≡ true → (a ≡ true) × (b ≡ true)
both true b e = (refl, e)
both false b e = absurd (false≢true e)

and_assoc : (a b c : Bool) → a && (b && c) ≡ (a && b) && c
and_assoc true b c = refl
and_assoc false b c = refl

pub inside-append : (pay : Pay) (js : List Job) (t : ℕ) (ps qs : List Part) → all_inside pay js t (ps ++ qs) ≡ all_inside pay js t ps && all_inside pay (after_all js ps) (t + lasts ps) qs
unfolding all_inside after_all lasts
inside-append pay js t [] qs = let e : t ≡ t + 0 = omega arith in ap (λ (m : ℕ). all_inside pay js m qs) e
inside-append pay js t (p ∷ ps) qs =
    let e : t + p.time + lasts ps ≡ t + (p.time + lasts ps) = omega arith in
    let d : Bool = defined (earns pay js p (t + p.time)) in
    let a : Bool = all_inside pay (after js p) (t + p.time) ps in
    ap (λ (x : Bool). d && x) (inside-append pay (after js p) (t + p.time) ps qs)
    ∙ and_assoc d a (all_inside pay (after_all (after js p) ps) (t + p.time + lasts ps) qs)
    ∙ ap (λ (m : ℕ). (d && a) && all_inside pay (after_all (after js p) ps) m qs) e
