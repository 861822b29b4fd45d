-- How many jobs are left: a group ends one of them.
use Rattle.std.specs.Prelude.{ℕ, ◌<◌, ◌≤◌, ◌≡◌, refl, ◌⊎◌, Bool, true, false, List}
use Rattle.std.proofs.Common.{arith, inl, inr}
use Rattle.std.proofs.Math.Path.{ap}
use Rattle.job.specs.declared.Job.{Job}
use Rattle.job.specs.Job.{is_left, granted, worked, left_in}
use Rattle.job.specs.Grant.{granted-run}
use Rattle.job.specs.Run.{ran-run}
use Rattle.job.specs.Rollback.{rolled_back-rollback}
use Rattle.job.specs.Part.{ended-not-left}
use Rattle.gus.specs.declared.Part.{Part}
use Rattle.gus.specs.State.{job_at, worked_by, after}
use Rattle.invariants.specs.Sound.{Sound, Member, member-left}
use Rattle.invariants.specs.Proper.{Proper}
use Rattle.invariants.specs.Tally.{bit, bit-most, tally, tally-after, tally-one, tally-first, tally-most}

abbrev left_one : Job → ℕ
left_one j = bit (is_left j)

unfoldable pub count_left : List Job → ℕ
count_left js = tally left_one js

-- a job that is finished: one of its times is at zero
abbrev pub Ended : Job → Type 0
Ended j = (j.run ≡ 0) ⊎ (j.rollback ≡ 0)

pub all-ended : (b : Bool) (j : Job) → Ended (worked b (left_in b j) j)
all-ended true j = inr (omega (arith, rolled_back-rollback j.rollback j))
all-ended false j = inl (omega (arith, ran-run j.run (granted j), granted-run j))

pub count_most : {js : List Job} → Sound js → count_left js ≤ 32
unfolding count_left
count_most {js} s = omega (arith, tally-most left_one 1 s refl (λ i. bit-most (is_left (job_at js i))))

-- no more are left than there are jobs
pub count-jobs : (js : List Job) (n : ℕ) → ((i : ℕ) → n ≤ i → is_left (job_at js i) ≡ false) → count_left js ≤ n
unfolding count_left
count-jobs js n past = omega (arith, tally-first left_one n 1 js (λ i l. ap bit (past i l)) (λ i. bit-most (is_left (job_at js i))))

-- where a job is left the count says so
pub count-some : {js : List Job} {i : ℕ} → Sound js → Member js i → 1 ≤ count_left js
unfolding count_left
count-some {js} {i} s m = omega (arith, tally-one left_one js i (omega (arith, s.size, m.there)), ap bit (member-left m))

module _ {js : List Job} {p : Part} (s : Sound js) (g : Proper js p) where
  one_left : left_one (job_at js p.job) ≡ 1
  one_left = ap bit (member-left g.alive)

  pub count-after : count_left (after js p) ≤ count_left js
  unfolding count_left
  count-after = omega (arith, tally-after left_one s g, one_left, bit-most (is_left (worked_by js p)))

  pub count-ended : Ended (worked_by js p) → count_left (after js p) < count_left js
  unfolding count_left
  count-ended e = omega (arith, tally-after left_one s g, one_left, ap bit (ended-not-left (worked_by js p) e))

  pub count-last : p.time ≡ left_in p.rolling (job_at js p.job) → count_left (after js p) < count_left js
  count-last l = count-ended (rw l (all-ended p.rolling (job_at js p.job)))
