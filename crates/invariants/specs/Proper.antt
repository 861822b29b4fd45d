-- What demand 3 asks of a part where it starts, and that such a part keeps the jobs sound.
use Rattle.std.specs.Prelude.{ℕ, ◌<◌, ◌≤◌, ◌≡◌, ◌≢◌, ◌⊎◌, true, List, length}
use Rattle.std.proofs.Math.Decide.{ℕ_discrete, dec_lt}
use Rattle.std.proofs.Common.{arith, sym, ap, ◌∙◌, inl, inr, length-set, get_or-set_same, get_or-set_other}
use Rattle.job.specs.declared.Job.{Job}
use Rattle.job.specs.Times.{never}
use Rattle.job.specs.Job.{hold_of, worked, left_in, span_in}
use Rattle.job.specs.Fit.{Fit}
use Rattle.job.specs.Part.{worked-request}
use Rattle.job.proofs.Part.{fit-worked, worked-all, worked-span, worked-new}
use Rattle.gus.specs.declared.Part.{Part}
use Rattle.gus.specs.State.{vacant, job_at, worked_by, after}
use Rattle.invariants.specs.Sound.{Free, Sound, Member}

pub record Proper (js : List Job) (p : Part) : Type 0 where
  -- "no finished job runs"
  pub alive : Member js p.job
  pub some : 1 ≤ p.time
  -- "no part is longer than what its job has left in that mode"
  pub left : p.time ≤ left_in p.rolling (job_at js p.job)
  -- "No normal part starts while another job holds what its job asks for": here for parts of either mode
  pub free : Free js (job_at js p.job).request.resource
  -- "a job once in rollback never runs normally again"
  pub stays : (job_at js p.job).rolling ≡ true → p.rolling ≡ true
  -- "the never mark: the job can't be rolled back"
  pub real : p.rolling ≡ true → (job_at js p.job).rollback < never

-- a part that frees a resource
pub record Frees (js : List Job) (p : Part) : Type 0 where
  pub what : ℕ
  pub held : 0 < hold_of (job_at js p.job) what
  pub gone : Free (after js p) what

module _ (js : List Job) (p : Part) where
  pub at_other : (i : ℕ) → i ≢ p.job → job_at (after js p) i ≡ job_at js i
  at_other i ne = get_or-set_other js p.job i (worked_by js p) vacant ne

  size-after : length (after js p) ≡ length js
  size-after = length-set js p.job (worked_by js p)

module _ {js : List Job} {p : Part} (s : Sound js) (g : Proper js p) where
  pub at_same : job_at (after js p) p.job ≡ worked_by js p
  at_same = get_or-set_same js p.job (worked_by js p) vacant (omega (arith, s.size, g.alive.there))

  -- its job asks for nothing any more
  pub at-request : 32 ≤ (job_at (after js p) p.job).request.resource
  at-request = rw at_same (worked-request p.rolling p.time (job_at js p.job))

  -- who holds r after p held it before, or it is p's job and r is what it asked for
  pub holder-after : (i r : ℕ) → 0 < hold_of (job_at (after js p) i) r → (0 < hold_of (job_at js i) r) ⊎ ((i ≡ p.job) × ((job_at js p.job).request.resource < 32) × (r ≡ (job_at js p.job).request.resource))
  holder-after i r h = elim (ℕ_discrete i p.job) [
    | yes e ↦
        let own : 0 < hold_of (worked_by js p) r = omega (arith, ap (λ (k : ℕ). hold_of (job_at (after js p) k) r) e, ap (λ (j : Job). hold_of j r) at_same) in
        elim (worked-new p.rolling p.time (job_at js p.job) r own) [
          | inl x ↦ inl (omega (arith, ap (λ (k : ℕ). hold_of (job_at js k) r) e))
          | inr x ↦ inr (e, x.1, x.2)
        ]
    | no ne ↦ inl (omega (arith, ap (λ (j : Job). hold_of j r) (at_other js p i ne)))
  ]

  -- A PROPER PART KEEPS THE JOBS SOUND: in particular nothing has two holders.
  pub sound-after : Sound (after js p)
  sound-after = record { size = size-after js p ∙ s.size; fit = fits; one = ones }
    where
      fits : (i : ℕ) → Fit (job_at (after js p) i)
      fits i = elim (ℕ_discrete i p.job) [
        | yes e ↦ rw (e, at_same) (fit-worked p.rolling p.time (s.fit p.job) g.real)
        | no ne ↦ rw (at_other js p i ne) (s.fit i)
      ]

      ones : (a b r : ℕ) → 0 < hold_of (job_at (after js p) a) r → 0 < hold_of (job_at (after js p) b) r → a ≡ b
      ones a b r ha hb = elim (holder-after a r ha) [
        | inl x ↦ elim (holder-after b r hb) [
          | inl y ↦ s.one a b r x y
          | inr y ↦ absurd (omega (arith, g.free.at a, ap (hold_of (job_at js a)) y.2))
        ]
        | inr x ↦ elim (holder-after b r hb) [
          | inl y ↦ absurd (omega (arith, g.free.at b, ap (hold_of (job_at js b)) x.2))
          | inr y ↦ x.0 ∙ sym y.0
        ]
      ]

  -- what its job does not hold afterwards, and no other job held, is free
  pub free-after : (r : ℕ) → hold_of (worked_by js p) r ≤ 0 → ((a : ℕ) → a ≢ p.job → hold_of (job_at js a) r ≤ 0) → Free (after js p) r
  free-after r own others = record {
    at = λ a. elim (ℕ_discrete a p.job) [
      | yes e ↦ omega (arith, ap (λ (k : ℕ). hold_of (job_at (after js p) k) r) e, ap (λ (j : Job). hold_of j r) at_same)
      | no ne ↦ omega (arith, ap (λ (j : Job). hold_of j r) (at_other js p a ne), others a ne)
    ];
  }

  -- nobody else has what its job holds
  pub only-holder : (r : ℕ) → 0 < hold_of (job_at js p.job) r → (a : ℕ) → a ≢ p.job → hold_of (job_at js a) r ≤ 0
  only-holder r h a ne = elim (dec_lt 0 (hold_of (job_at js a) r)) [ yes l ↦ absurd (ne (s.one a p.job r l h)) | no l ↦ omega arith ]

  -- a part as long as its job has r in the part's mode frees r
  pub freed : (r : ℕ) → 0 < hold_of (job_at js p.job) r → p.time ≡ span_in p.rolling (job_at js p.job) r → Free (after js p) r
  freed r h e =
      let j : Job = job_at js p.job in
      let ne : r ≢ j.request.resource = λ w. absurd (omega (arith, g.free.at p.job, ap (hold_of j) w)) in
      free-after r (omega (arith, ap (λ (t : ℕ). hold_of (worked p.rolling t j) r) e, worked-span p.rolling j r ne)) (only-holder r h)

  -- a part that takes all that its job has left leaves it with nothing: no finished job holds
  pub finished_free : p.time ≡ left_in p.rolling (job_at js p.job) → (r : ℕ) → hold_of (job_at (after js p) p.job) r ≡ 0
  finished_free e r =
      let j : Job = job_at js p.job in
      ap (λ (x : Job). hold_of x r) at_same ∙ ap (λ (t : ℕ). hold_of (worked p.rolling t j) r) e ∙ worked-all p.rolling (s.fit p.job) g.real r
