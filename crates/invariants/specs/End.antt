-- The end is bounded: each part takes its time from what its job can still be given, running and rolling back.
use Rattle.std.specs.Prelude.{ℕ, ◌+◌, ◌≤◌, Bool, true, false, List}
use Rattle.std.proofs.Math.Decide.{dec_lt}
use Rattle.std.proofs.Common.{arith, ap, ne_eqb}
use Rattle.std.proofs.lemmas.Bool.{false≢true}
use Rattle.job.specs.declared.Request.{Request}
use Rattle.job.specs.declared.Job.{Job}
use Rattle.job.specs.Times.{never, plus, or-never-most}
use Rattle.job.specs.Job.{all_never, granted, worked, left_in}
use Rattle.job.specs.Grant.{granted-none, granted-run, granted-rollback}
use Rattle.job.specs.Run.{ran-run, ran-rollback}
use Rattle.job.specs.Rollback.{rolled_back-run, rolled_back-rollback, rolled_back-request}
use Rattle.job.specs.Fit.{Fit}
use Rattle.job.specs.Part.{worked-request}
use Rattle.job.proofs.Part.{fit-worked}
use Rattle.gus.specs.State.{job_at}

-- run time, rollback time, and what a grant can add to it
abbrev pub effort : Job → ℕ
effort j = j.run + j.rollback + j.request.rollback

granted-most : (j : Job) → (granted j).rollback ≤ j.rollback + j.request.rollback
granted-most j = elim (dec_lt j.request.resource 32) [
  | yes l ↦
      let sum : plus j.rollback j.request.rollback ≤ never = omega arith in
      elim (dec_lt j.rollback never) [
        | yes a ↦ elim (dec_lt j.request.rollback never) [
          | yes b ↦ rw (granted-rollback j l, ne_eqb j.rollback never (omega arith), ne_eqb j.request.rollback never (omega arith)) (omega arith)
          | no b ↦ omega (arith, granted-rollback j l, or-never-most (all_never j) sum)
        ]
        | no a ↦ omega (arith, granted-rollback j l, or-never-most (all_never j) sum)
      ]
  | no l ↦ rw (granted-none j (omega arith)) (omega arith)
]

pub request-most : {j : Job} → Fit j → j.request.rollback ≤ never
request-most {j} f = elim (dec_lt j.request.resource 32) [
  | yes l ↦ (f.asks l).rollback_most
  | no l ↦ omega (arith, ap (λ (x : Request). x.rollback) (f.none (omega arith)))
]

pub effort-worked : (b : Bool) (n : ℕ) {j : Job} → Fit j → n ≤ left_in b j → n + effort (worked b n j) ≤ effort j
effort-worked true n {j} f l = omega (arith, rolled_back-run n j, rolled_back-rollback n j, ap (λ (x : Request). x.rollback) (rolled_back-request n j))
effort-worked false n {j} f l =
    let none = ap (λ (x : Request). x.rollback) ((fit-worked false n f (λ e. absurd (false≢true e))).none (worked-request false n j)) in
    omega (arith, ran-run n (granted j), granted-run j, ran-rollback n (granted j), granted-most j, none)

-- run times of 16 bits
pub record Small (js : List Job) : Type 0 where
  pub run : (i : ℕ) → (job_at js i).run ≤ 65535
