-- From an accepted book to the sheet of the first round: the jobs as the book has them, and then the victims in rollback.
use Rattle.std.specs.Prelude.{◌≡◌, refl, List, ℕ, ◌<◌, ◌≤◌, Result, MatchResult}
use Rattle.std.proofs.Math.Path.{ap}
use Rattle.std.proofs.Common.{◌∙◌, arith}
use Rattle.job.specs.declared.Job.{Job}
use Rattle.book.specs.Read.{Book, JudgedBook}
use Rattle.book.specs.Format.{book_of}
use Rattle.accepted.proofs.Good.{accepted-good}
use Rattle.gus.specs.Victims.{victims_of, knot_of, settled}
use Rattle.cursor.specs.Refusal.{KNOT}
use Rattle.cursor.specs.declared.Refusal.{Refusal}
use Rattle.invariants.specs.Sound.{Sound}
use Rattle.invariants.specs.End.{Small}
use Rattle.opening.specs.Start.{jobs_from}
use Rattle.opening.specs.Sound.{job-past}
use Rattle.opening.specs.Modest.{modest}
use Rattle.opening.proofs.Opened.{Opened, accepted-opened}
use Rattle.opening.specs.Planned.{view_from, start_from}
use Rattle.planner.specs.declared.Victims.{Victims}
use Rattle.planner.specs.declared.State.{State}
use Rattle.book.specs.declared.Judged.{Judged}
use Rattle.book.specs.Judged.{starts_of, judged_of}
use Rattle.planner.specs.Standing.{Accepted, Standing}
use Rattle.planner.specs.Sheet.{seen}
use Rattle.planner.specs.Rows.{Idle}
use Rattle.planner.specs.Asking.{Scanning}
use Rattle.planner.specs.Shown.{pay_in, Shown, shown-view, shown-scanning}
use Rattle.planner.specs.Listing.{listed}
use Rattle.planner.specs.Settling.{Handed, victims_in}
use Rattle.planner.specs.Handing.{listed-victims, listed-handed}
use Rattle.planner.specs.Putting.{sent_rows}
use Rattle.planner.specs.RowLaid.{laid_sheet}
use Rattle.planner.specs.Laying.{laid-shown}
use Rattle.planner.specs.Kept.{Kept, settled_in, kept-settled}

-- THE STATE OF A BOOK'S JOBS, every row of its sheet looked up; and the victims in rollback
abbrev pub opened_state : List ℕ → State
opened_state s = let b = book_of s in record { jobs = jobs_from b; holders = b.holders; sheet = laid_sheet s (starts_of b) b.holders b.jobs }

abbrev pub first_state : List ℕ → State
first_state s = let b = book_of s in settled_in (opened_state s) (victims_of (view_from b) b.now)

-- the victims, and the sheet with them in rollback, unless a circle has none
pub record Prepared (s sheet : List ℕ) (v : Victims) : Type 0 where
  pub victims : v ≡ listed (view_from (book_of s)) (book_of s).now
  pub sheet_is : 32 ≤ v.knot → sheet ≡ (first_state s).sheet

-- that, or KNOT at the lowest job of a circle that has none
abbrev pub PreparedFor : List ℕ → List ℕ → Result Victims Refusal → Type 0
PreparedFor s sheet o =
    let knot = knot_of (view_from (book_of s)) (book_of s).now in
    MatchResult o (λ v. Prepared s sheet v × (32 ≤ v.knot)) (λ d. (d ≡ record { number = KNOT; place = knot }) × (knot < 32))

-- from the book's count on there is no job
pub idle-from : (s : List ℕ) → (book_of s).number ≡ 0 → Idle (book_of s).jobs (jobs_from (book_of s))
idle-from s a =
    let g = accepted-good s a in
    record {
      run = λ i h. ap (λ (j : Job). j.run) (job-past g i h);
      request = λ i h. let e = ap (λ (j : Job). j.request.resource) (job-past g i h) in omega arith;
    }

module _ (s : List ℕ) {j : Judged} (a : Accepted s j) where
  abbrev b : Book
  b = book_of s

  opened : Opened b
  opened = accepted-opened s a.accepted

  pub standing : Standing s j.starts j.holders j.jobs
  unfolding judged_of
  standing = record {
    accepted = a.accepted;
    starts_are = ap (λ (x : JudgedBook). x.starts) a.judged;
    holders_are = ap (λ (x : JudgedBook). x.holders) a.judged;
    jobs_are = ap (λ (x : JudgedBook). x.jobs) a.judged;
  }

  pub now-is : j.now ≡ b.now
  unfolding judged_of
  now-is = ap (λ (x : JudgedBook). x.now) a.judged

  pub jobs_are : j.jobs ≡ b.jobs
  jobs_are = standing.jobs_are

  pub jobs-few : j.jobs ≤ 32
  jobs-few = omega (arith, jobs_are, (accepted-good s a.accepted).jobs)

  -- of jobs with the book's own times, some of them in rollback
  module _ {js : List Job} {sheet : List ℕ} (sound : Sound js) (small : Small js) (idle : Idle b.jobs js) (rows : Shown s js sheet) where
    pub prepared-scanning : Scanning (seen s sheet) j.jobs j.now
    prepared-scanning = shown-scanning s a.accepted sound rows (modest (pay_in s) opened.worth sound small) (rw jobs_are idle) jobs-few (omega (arith, now-is, opened.now))

  module _ {sheet : List ℕ} (rows : Shown s (jobs_from b) sheet) where
    pub first-scanning : Scanning (seen s sheet) j.jobs j.now
    first-scanning = prepared-scanning opened.sound opened.small (idle-from s a.accepted) rows

    pub victims-are : {v : Victims} → v ≡ listed (seen s sheet) j.now → v ≡ listed (view_from b) b.now
    victims-are e = e ∙ (λ k. listed (shown-view s a.accepted opened.sound rows k) (now-is k))

  -- the laid sheet, as the code and as the definition have it
  module _ {sheet : List ℕ} (e : sheet ≡ laid_sheet s j.starts j.holders j.jobs) where
    laid-is : sheet ≡ (opened_state s).sheet
    laid-is = e ∙ (λ k. laid_sheet s (standing.starts_are k) (standing.holders_are k) (standing.jobs_are k))

    pub opened-shown : Shown s (jobs_from b) sheet
    opened-shown = rw e (laid-shown standing)

  module _ {v : Victims} (e : v ≡ listed (view_from b) b.now) where
    victims-in : victims_in v ≡ victims_of (view_from b) b.now
    victims-in = ap victims_in e ∙ listed-victims (view_from b) b.now

    -- and with the victims sent back
    pub sent_is : {sheet sheet' : List ℕ} → sheet ≡ laid_sheet s j.starts j.holders j.jobs → sheet' ≡ sent_rows (victims_in v) sheet → sheet' ≡ (first_state s).sheet
    sent_is l q = q ∙ (λ k. sent_rows (victims-in k) (laid-is l k))

    pub victims-handed : Handed v
    victims-handed = rw e (listed-handed (view_from b) b.now)

    pub settled_is : settled (jobs_from b) (victims_in v) ≡ start_from b
    settled_is = ap (settled (jobs_from b)) victims-in

-- R-6, THE OPENING: what is laid is what a fresh look gives
module _ (s : List ℕ) (accepted : (book_of s).number ≡ 0) where
  pub kept-opened : Kept s (opened_state s)
  kept-opened =
      let o = accepted-opened s accepted in
      record {
        holding = record { size = o.holders_size; agree = λ r h. o.holders r };
        rows = laid-shown (record { accepted = accepted; starts_are = refl; holders_are = refl; jobs_are = refl });
      }

  -- and with the victims settled
  pub kept-first : Kept s (first_state s)
  kept-first =
      let b = book_of s in
      let is : List ℕ = victims_of (view_from b) b.now in
      kept-settled (opened_state s) is (accepted-opened s accepted).sound kept-opened
