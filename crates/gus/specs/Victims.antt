-- Wait circles and their victims (V.1, with 01's loss, but for a line of it that R-8 took out).
use Rattle.std.specs.Prelude.{true, false, List, [], ◌∷◌, ◌++◌, ℕ, zero, suc, ◌+◌, min, eqb, leb, set}
use Rattle.laws.specs.Count.{upto}
use Rattle.curve.specs.Worth.{amount}
use Rattle.job.specs.declared.Job.{Job}
use Rattle.job.specs.Times.{never}
use Rattle.job.specs.Job.{no_request}
use Rattle.gus.specs.declared.Course.{Course}
use Rattle.gus.specs.declared.Best.{Best}
use Rattle.gus.specs.State.{job_at}
use Rattle.gus.specs.Waits.{nobody}
use Rattle.gus.specs.View.{View}
use Rattle.gus.specs.Course.{denser}
use Rattle.gus.specs.Round.{no_best}

-- the lowest of a circle: from j on, until home is met again; nobody where the walk ends or n steps are not enough
unfoldable pub circle_from : (ℕ → ℕ) → ℕ → ℕ → ℕ → ℕ → ℕ
circle_from waits zero home j low = nobody
circle_from waits (suc n) home j low =
    elim (leb 32 j) [
      | true ↦ nobody
      | false ↦ elim (eqb j home) [ true ↦ low | false ↦ circle_from waits n home (waits j) (min low j) ]
    ]

-- the lowest member of the circle that job i is on, and nobody where it is on none; "a job that requests what it holds is a circle of one"
unfoldable pub circle_of : (ℕ → ℕ) → ℕ → ℕ
circle_of waits i = circle_from waits 32 i (waits i) i

-- "least loss: worth at now + run time left, divided by run time left". 01 goes on "for a job in rollback, 0"; that is left out, since no
-- member of a circle is in rollback (R-8; opening/specs/CircleModes.antt). "For a victim's loss none counts as 0" (R-7).
unfoldable pub loss_of : View → ℕ → ℕ → Course
loss_of v t i = record { time = v.run i; gain = amount (v.worth false i (t + v.run i)); inside = true }

-- job i against the best victim of those before it: "Ties go to the lowest number"
unfoldable pub lesser : ℕ → Course → Best → Best
lesser i c b = elim b.some [
  | true ↦ elim (denser b.course c) [ true ↦ record { some = true; last = i; course = c } | false ↦ b ]
  | false ↦ record { some = true; last = i; course = c }
]

-- "the job, not marked never", of the circle whose lowest member is `low`
unfoldable pub offer : View → ℕ → ℕ → ℕ → Best → Best
offer v t low i b =
    elim (eqb (circle_of v.waits i) low) [
      | true ↦ elim (eqb (v.rollback i) never) [ true ↦ b | false ↦ lesser i (loss_of v t i) b ]
      | false ↦ b
    ]

unfoldable pub victim_of : View → ℕ → ℕ → Best
victim_of v t low = upto (offer v t low) 32 no_best

-- the victims of the circles whose lowest member is below n, "listed by the lowest member of their circle"
unfoldable pub victims_to : View → ℕ → ℕ → List ℕ
victims_to v t zero = []
victims_to v t (suc n) = victims_to v t n ++ elim (eqb (circle_of v.waits n) n) [ true ↦ (victim_of v t n).last ∷ [] | false ↦ [] ]

unfoldable pub victims_of : View → ℕ → List ℕ
victims_of v t = victims_to v t 32

-- KNOT: the lowest member below n of a circle without a victim, and nobody where there is none
unfoldable pub knot_to : View → ℕ → ℕ → ℕ
knot_to v t zero = nobody
knot_to v t (suc n) =
    elim (leb 32 (knot_to v t n)) [
      | true ↦ elim (eqb (circle_of v.waits n) n) [ true ↦ elim (victim_of v t n).some [ true ↦ nobody | false ↦ n ] | false ↦ nobody ]
      | false ↦ knot_to v t n
    ]

unfoldable pub knot_of : View → ℕ → ℕ
knot_of v t = knot_to v t 32

-- "It goes into rollback and loses its request."
abbrev pub sent_back : Job → Job
sent_back j = record { rolling = true; run = j.run; rollback = j.rollback; request = no_request; held = j.held }

unfoldable pub settled : List Job → List ℕ → List Job
settled js [] = js
settled js (i ∷ is) = settled (set js i (sent_back (job_at js i))) is
