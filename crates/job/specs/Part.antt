-- A job after one part: what demand 3 needs of one job.
use Rattle.std.specs.Prelude.{ℕ, ◌+◌, ◌<◌, ◌≤◌, ◌≡◌, ◌⊎◌, Bool, true, false, ltb}
use Rattle.std.proofs.Math.Decide.{dec_lt}
use Rattle.std.proofs.Common.{arith, ap, ◌∙◌, inl, inr, lt-ltb, le-ltb, ltb-true}
use Rattle.std.proofs.Math.Bool.{and-false}
use Rattle.std.proofs.lemmas.Bool.{false≢true}
use Rattle.job.specs.declared.Request.{Request}
use Rattle.job.specs.declared.Job.{Job}
use Rattle.job.specs.Times.{never, plus, or_never, either-or-neither}
use Rattle.job.specs.Job.{is_left, granted, worked, left_in}
use Rattle.job.specs.Grant.{granted-none, granted-run, granted-rolling, granted-request, granted-rollback, granted-adds}
use Rattle.job.specs.Run.{ran-run, ran-rollback, ran-rolling, ran-request}
use Rattle.job.specs.Rollback.{rolled_back-rollback, rolled_back-rolling, rolled_back-request}
use Rattle.job.specs.Fit.{Fit}

-- A job is left exactly while it has time left in both modes.
pub is-left : (j : Job) → 1 ≤ j.run → 1 ≤ j.rollback → is_left j ≡ true
is-left j h k = rw (lt-ltb 0 j.run h, lt-ltb 0 j.rollback k)

pub left_is : (j : Job) → is_left j ≡ true → (1 ≤ j.run) × (1 ≤ j.rollback)
left_is j e = elim (dec_lt 0 j.run) [
  | yes h ↦ (h, ltb-true 0 j.rollback (rw (lt-ltb 0 j.run h) at e))
  | no h ↦ absurd (false≢true (rw (le-ltb 0 j.run (omega arith)) at e))
]

pub ended-not-left : (j : Job) → (j.run ≡ 0) ⊎ (j.rollback ≡ 0) → is_left j ≡ false
ended-not-left j (inl e) = rw (le-ltb 0 j.run (omega arith))
ended-not-left j (inr e) = rw (le-ltb 0 j.rollback (omega arith)) (and-false (ltb 0 j.run))

-- Time given and time left are what was left before, in the part's mode.
pub given-and-left : (b : Bool) (n : ℕ) (j : Job) → n ≤ left_in b j → n + left_in b (worked b n j) ≡ left_in b j
given-and-left true n j h = omega (arith, rolled_back-rollback n j)
given-and-left false n j h = omega (arith, ran-run n (granted j), granted-run j)

-- Where rollback stays possible, a normal part adds what its job asked for to the rollback time, and takes nothing.
pub normal-adds : (n : ℕ) {j : Job} → Fit j → (worked false n j).rollback < never → (worked false n j).rollback ≡ j.rollback + j.request.rollback
normal-adds n {j} f h = ran-rollback n (granted j) ∙ elim (dec_lt j.request.resource 32) [
  | yes l ↦ elim (either-or-neither f.most (f.asks l).rollback_most) [
    | inl t ↦ absurd (omega (arith, ran-rollback n (granted j), granted-rollback j l, ap (λ (b : Bool). or_never b (plus j.rollback j.request.rollback)) t))
    | inr t ↦ granted-adds j l t.1 t.2 ((f.asks l).sum_below t.1 t.2)
  ]
  | no l ↦ omega (arith, ap (λ (x : Job). x.rollback) (granted-none j (omega arith)), ap (λ (x : Request). x.rollback) (f.none (omega arith)))
]

-- A job once in rollback stays in it.
pub rolling-stays : (b : Bool) (n : ℕ) (j : Job) → j.rolling ≡ true → (worked b n j).rolling ≡ true
rolling-stays true n j e = rolled_back-rolling n j
rolling-stays false n j e = ran-rolling n (granted j) ∙ granted-rolling j ∙ e

-- After a part its job asks for nothing.
pub worked-request : (b : Bool) (n : ℕ) (j : Job) → 32 ≤ (worked b n j).request.resource
worked-request true n j = omega (arith, ap (λ (x : Request). x.resource) (rolled_back-request n j))
worked-request false n j = omega (arith, ap (λ (x : Request). x.resource) (ran-request n (granted j)), granted-request j)
