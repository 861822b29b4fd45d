-- From the prepared sheet to the answer: KNOT, the rounds, or the first part.
use Rattle.std.specs.Prelude.{◌≡◌, refl, List, [], ◌∷◌, ℕ, ◌<◌, ◌≤◌, ltb, length, get_or}
use Rattle.std.proofs.Common.{sym, ◌∙◌, arith}
use Rattle.std.proofs.Math.Path.{ap}
use borrow.Author.Tests.{lt-ltb, le-ltb}
use Rattle.laws.specs.Fill.{padded}
use Rattle.job.specs.declared.Job.{Job}
use Rattle.book.specs.Read.{Book, JudgedBook}
use Rattle.cursor.specs.Refusal.{KNOT}
use Rattle.book.specs.Format.{book_of}
use Rattle.gus.specs.declared.Part.{Part}
use Rattle.gus.specs.View.{view_of}
use Rattle.gus.specs.Choice.{by_density}
use Rattle.gus.specs.Group.{Group}
use Rattle.gus.specs.Round.{rounds}
use Rattle.gus.specs.Victims.{victims_of, knot_of, settled}
use Rattle.gus.specs.Plan.{answer_to}
use Rattle.invariants.specs.Waiting.{Ready}
use Rattle.invariants.proofs.Start.{ready-settled}
use Rattle.invariants.specs.End.{Small}
use Rattle.opening.specs.Start.{jobs_from, pay_from}
use Rattle.opening.specs.Small.{small-settled}
use Rattle.opening.proofs.Opened.{accepted-opened}
use Rattle.opening.specs.Planned.{view_from, start_from}
use Rattle.planner.specs.declared.State.{State}
use Rattle.planner.specs.declared.Victims.{Victims}
use Rattle.planner.specs.declared.GroupParts.{GroupParts}
use Rattle.planner.specs.declared.PlanParts.{PlanParts}
use Rattle.planner.specs.Plans.{Planned, FirstPart}
use Rattle.book.specs.declared.Judged.{Judged}
use Rattle.book.specs.Judged.{judged_of, judged_book}
use Rattle.accepted.proofs.Spans.{starts-at}
use Rattle.opening.specs.Taken.{jobs_in}
use Rattle.opening.proofs.TakenRight.{jobs-taken}
use Rattle.planner.specs.Standing.{Accepted}
use Rattle.planner.specs.Sheet.{seen}
use Rattle.planner.specs.Rows.{Idle}
use Rattle.planner.specs.Idling.{idle-settled}
use Rattle.planner.specs.Asking.{Scanning}
use Rattle.planner.specs.LaidOut.{empty_part, laid_out}
use Rattle.planner.specs.Round.{round_of}
use Rattle.planner.specs.Listing.{listed}
use Rattle.planner.specs.Settling.{victims_in}
use Rattle.planner.specs.Fitting.{Sane}
use Rattle.planner.specs.Staged.{Rounded}
use Rattle.planner.specs.Shown.{pay_in, Shown, shown-round}
use Rattle.planner.specs.Working.{Starting}
use Rattle.planner.specs.Planned.{laid_plan, refused_plan, answered_to, planned_to, planned_of}
use Rattle.planner.specs.First.{first_in, first_of, first_made, first_by, refused_first, one-round}
use Rattle.planner.specs.Preparing.{first_state, Prepared, idle-from, standing, now-is, jobs_are, jobs-few, prepared-scanning, settled_is, kept-first}

-- the answer that the victims and the rounds make
abbrev pub plan_in : Victims → PlanParts → Planned
plan_in v p = record {
  number = 0;
  place = 0;
  victims = v.list;
  victimcount = v.count;
  parts = p.parts;
  count = p.count;
  rounds = p.rounds;
  total = p.total;
  end = p.moment;
}

-- an accepted book, as judged, with its victims
pub record Chosen (s : List ℕ) (j : Judged) (v : Victims) : Type 0 where
  pub accepted : Accepted s j
  pub victims : v ≡ listed (view_from (book_of s)) (book_of s).now

-- a book without a knot, prepared for its first round
pub record Cleared (s : List ℕ) (j : Judged) (sheet : List ℕ) (v : Victims) : Type 0 where
  pub accepted : Accepted s j
  pub prepared : Prepared s sheet v
  pub free : 32 ≤ v.knot

-- the first part of a round's group
abbrev pub first_from : GroupParts → FirstPart
first_from g = record { number = 0; place = 0; some = ltb 0 g.count; part = get_or g.parts 0 empty_part }

laid-first : (g : Group) → first_from (laid_out g) ≡ first_of g.parts
unfolding laid_out first_of padded
laid-first g = by g.parts
  where
    by : (ps : List Part) → record { number = 0; place = 0; some = ltb 0 (length ps); part = get_or (padded 32 empty_part ps) 0 empty_part } ≡ first_of ps
    by [] = refl
    by (p ∷ ps) = rw (lt-ltb 0 (length (p ∷ ps)) (omega arith))

-- the reader's refusal
module _ (s : List ℕ) {j : JudgedBook} (e : j ≡ judged_of s) where
  number_is : j.number ≡ (book_of s).number
  unfolding judged_of
  number_is = ap (λ (x : JudgedBook). x.number) e

  place_is : j.place ≡ (book_of s).place
  unfolding judged_of
  place_is = ap (λ (x : JudgedBook). x.place) e

  pub refused-plan : {r : Planned} → 0 < j.number → r ≡ refused_plan j.number j.place → r ≡ planned_of s
  unfolding planned_to
  refused-plan h q = rw (lt-ltb 0 (book_of s).number (omega (arith, number_is)), planned_to) (q ∙ (λ k. refused_plan (number_is k) (place_is k)))

  pub refused-first : {r : FirstPart} → 0 < j.number → r ≡ refused_first j.number j.place → r ≡ first_by by_density s
  unfolding first_by
  refused-first h q = rw (lt-ltb 0 (book_of s).number (omega (arith, number_is)), first_by) (q ∙ (λ k. refused_first (number_is k) (place_is k)))

pub judged-accepted : (s : List ℕ) {j : Judged} → judged_book j ≡ judged_of s → Accepted s j
judged-accepted s e = record { judged = e; accepted = sym (number_is s e) }

pub first-is : (s : List ℕ) {r : FirstPart} → r ≡ first_by by_density s → r ≡ first_in (planned_of s)
first-is s e = e ∙ sym (one-round by_density 31 s)

-- the jobs opened where their records stand, and then settled
pub state-made : (s : List ℕ) {j : Judged} → Accepted s j → {v : Victims} → v ≡ listed (view_from (book_of s)) (book_of s).now → {jobs : List Job} {sheet : List ℕ} {state : State}
    → jobs ≡ jobs_in s j.starts j.jobs
    → state ≡ record { jobs = settled jobs (victims_in v); holders = j.holders; sheet = sheet }
    → state ≡ record { jobs = start_from (book_of s); holders = (book_of s).holders; sheet = sheet }
state-made s {j} a {v} e {jobs} {sheet} o q =
    let w = standing s a in
    let b : Book = book_of s in
    let opened : jobs ≡ jobs_from b = o ∙ (λ k. jobs_in s (w.starts_are k) (w.jobs_are k)) ∙ jobs-taken s a.accepted _ (starts-at s a.accepted) in
    let settled-jobs : settled jobs (victims_in v) ≡ start_from b = ap (λ (js : List Job). settled js (victims_in v)) opened ∙ settled_is s a e in
    q ∙ (λ k. record { jobs = settled-jobs k; holders = w.holders_are k; sheet = sheet })

-- an accepted book without a knot may be planned
module _ (s : List ℕ) (accepted : (book_of s).number ≡ 0) (free : 32 ≤ knot_of (view_from (book_of s)) (book_of s).now) where
  pub first-ready : Ready (start_from (book_of s))
  first-ready = ready-settled (pay_from (book_of s)) (book_of s).now (accepted-opened s accepted).sound free

  pub first_small : Small (start_from (book_of s))
  first_small = small-settled (accepted-opened s accepted).small (victims_of (view_from (book_of s)) (book_of s).now)

  pub first-sane : Sane (pay_in s) (first_state s)
  first-sane = record { ready = first-ready; small = first_small; worth = (accepted-opened s accepted).worth }

module _ (s : List ℕ) {j : Judged} (a : Accepted s j) {sheet : List ℕ} {v : Victims} (p : Prepared s sheet v) where
  abbrev b : Book
  b = book_of s

  accepted : (book_of s).number ≤ 0
  accepted = omega (arith, a.accepted)

  knot-is : v.knot ≡ knot_of (view_from b) b.now
  unfolding listed
  knot-is = ap (λ (x : Victims). x.knot) p.victims

  pub knotted-plan : {r : Planned} → v.knot < 32 → r ≡ refused_plan KNOT v.knot → r ≡ planned_of s
  unfolding planned_to answered_to
  knotted-plan h q = rw (le-ltb 0 b.number accepted, planned_to, lt-ltb (knot_of (view_from b) b.now) 32 (rw knot-is at h), answered_to) (q ∙ ap (refused_plan KNOT) knot-is)

  pub knotted-first : {r : FirstPart} → v.knot < 32 → r ≡ refused_first KNOT v.knot → r ≡ first_by by_density s
  unfolding first_by
  knotted-first h q = rw (le-ltb 0 b.number accepted, lt-ltb (knot_of (view_from b) b.now) 32 (rw knot-is at h), first_by) (q ∙ ap (refused_first KNOT) knot-is)

  module _ (none : 32 ≤ v.knot) where
    free : 32 ≤ knot_of (view_from b) b.now
    free = rw knot-is at none

    starts : Ready (start_from b)
    starts = first-ready s a.accepted free

    small : Small (start_from b)
    small = first_small s a.accepted free

    idle : Idle b.jobs (start_from b)
    idle = idle-settled (idle-from s a.accepted) (victims_of (view_from b) b.now)

    shown : Shown s (start_from b) sheet
    shown = rw (p.sheet_is none) (kept-first s a.accepted).rows

    -- the first round
    pub round-scanning : Scanning (seen s sheet) j.jobs j.now
    round-scanning = prepared-scanning s a starts.sound small idle shown

    pub first_found : {g : GroupParts} {r : FirstPart} → g ≡ laid_out (round_of by_density (seen s sheet) j.now) → r ≡ first_from g → r ≡ first_by by_density s
    unfolding first_by first_made
    first_found {g} {r} e q =
        let h = shown-round s a.accepted starts.sound shown by_density j.now e in
        rw (le-ltb 0 b.number accepted, le-ltb (knot_of (view_from b) b.now) 32 free, first_by)
        (q ∙ ap first_from h ∙ laid-first (round_of by_density (view_of (pay_in s) (start_from b)) j.now) ∙ ap (λ (t : ℕ). first_of (round_of by_density (view_of (pay_in s) (start_from b)) t).parts) (now-is s a))

    -- the rounds
    module _ {state : State} (state-is : state ≡ record { jobs = start_from b; holders = b.holders; sheet = sheet }) where
      first : state ≡ first_state s
      first = state-is ∙ ap (λ (t : List ℕ). record { jobs = start_from b; holders = b.holders; sheet = t }) (p.sheet_is none)

      pub rounds-start : Starting s state j.jobs j.now
      rounds-start = rw first (record {
        accepted = a.accepted;
        sane = first-sane s a.accepted free;
        idle = rw (jobs_are s a) idle;
        few = jobs-few s a;
        kept = kept-first s a.accepted;
        now = omega (arith, now-is s a, (accepted-opened s a.accepted).now);
      })

      pub planned-is : {t : PlanParts} → Rounded (rounds 32 by_density (pay_in s) state.jobs j.now) t → plan_in v t ≡ planned_of s
      unfolding planned_to answered_to laid_plan answer_to listed
      planned-is {t} d =
          let js : state.jobs ≡ start_from b = ap (λ (x : State). x.jobs) state-is in
          let z : Rounded (rounds 32 by_density (pay_in s) (start_from b) b.now) t = rw (← js, ← now-is s a) d in
          let l = p.victims in
          rw (le-ltb 0 b.number accepted, planned_to, le-ltb (knot_of (view_from b) b.now) 32 free, answered_to)
          (λ k. record {
            number = 0;
            place = 0;
            victims = (l k).list;
            victimcount = (l k).count;
            parts = z.parts k;
            count = z.count k;
            rounds = z.rounds k;
            total = z.total k;
            end = z.end k;
          })
