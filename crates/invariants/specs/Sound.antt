-- What stays true of the jobs between parts: each is fit, and nothing has two holders.
use Rattle.std.specs.Prelude.{ℕ, ◌<◌, ◌≤◌, ◌≡◌, true, List, length}
use Rattle.std.proofs.Math.Decide.{dec_lt}
use Rattle.std.proofs.Common.{arith, ap}
use Rattle.job.specs.declared.Job.{Job}
use Rattle.job.specs.Job.{hold_of, is_left}
use Rattle.job.specs.Fit.{Fit, held_below}
use Rattle.job.specs.Part.{is-left, left_is}
use Rattle.gus.specs.State.{job_at}
use Rattle.invariants.specs.Vacant.{vacant-holds, vacant-fit, vacant-past}

-- nobody holds r
pub record Free (js : List Job) (r : ℕ) : Type 0 where
  pub at : (a : ℕ) → hold_of (job_at js a) r ≡ 0

pub record Sound (js : List Job) : Type 0 where
  pub size : length js ≡ 32
  pub fit : (i : ℕ) → Fit (job_at js i)
  pub one : (a b r : ℕ) → 0 < hold_of (job_at js a) r → 0 < hold_of (job_at js b) r → a ≡ b

-- it is enough to look at the 32 places: there is no job past them
pub sound-of : {js : List Job} → length js ≡ 32 → ((i : ℕ) → i < 32 → Fit (job_at js i)) → ((a b r : ℕ) → a < 32 → b < 32 → 0 < hold_of (job_at js a) r → 0 < hold_of (job_at js b) r → a ≡ b) → Sound js
sound-of {js} z fits ones = record {
  size = z;
  fit = λ i. elim (dec_lt i 32) [ yes l ↦ fits i l | no l ↦ rw (vacant-past js z i (omega arith)) vacant-fit ];
  one = λ a b r x y. ones a b r (within a r x) (within b r y) x y;
}
  where
    within : (a r : ℕ) → 0 < hold_of (job_at js a) r → a < 32
    within a r h = elim (dec_lt a 32) [ yes l ↦ l | no l ↦ absurd (omega (arith, ap (λ (j : Job). hold_of j r) (vacant-past js z a (omega arith)), vacant-holds r)) ]

-- job i is one of those left
pub record Member (js : List Job) (i : ℕ) : Type 0 where
  pub there : i < 32
  pub run_some : 1 ≤ (job_at js i).run
  pub rollback_some : 1 ≤ (job_at js i).rollback

module _ {js : List Job} (s : Sound js) where
  -- there are no resources from 32 on: a job without a request asks for what is free
  pub free-past : (r : ℕ) → 32 ≤ r → Free js r
  free-past r l = record { at = λ a. elim (dec_lt 0 (hold_of (job_at js a) r)) [ yes h ↦ absurd (omega (arith, held_below (s.fit a) r h)) | no h ↦ omega arith ] }

  pub left-member : (i : ℕ) → is_left (job_at js i) ≡ true → Member js i
  left-member i e = let m = left_is (job_at js i) e in record { there = below m.0; run_some = m.0; rollback_some = m.1 }
    where
      below : 1 ≤ (job_at js i).run → i < 32
      below h = elim (dec_lt i 32) [ yes l ↦ l | no l ↦ absurd (omega (arith, ap (λ (j : Job). j.run) (vacant-past js s.size i (omega arith)))) ]

  -- who holds something is left
  pub holder-left : (a r : ℕ) → 0 < hold_of (job_at js a) r → Member js a
  holder-left a r h = left-member a (is-left (job_at js a) (omega (arith, (s.fit a).holds r)) (omega (arith, (s.fit a).both r h, (s.fit a).rollbacks r)))

pub member-left : {js : List Job} {i : ℕ} → Member js i → is_left (job_at js i) ≡ true
member-left {js} {i} m = is-left (job_at js i) m.run_some m.rollback_some
