-- The answer of an accepted book without a knot fits the fields of its bytes: no part takes longer than 65,535 milliseconds, and so on.
use Rattle.std.specs.Prelude.{◌≡◌, Bool, true, false, length, get_or, take}
use mathlib.Core.List.{List}
use Prim.Native.Nat.{ℕ, ◌<◌, ◌≤◌}
use Rattle.std.proofs.Common.{arith}
use Rattle.job.specs.declared.Job.{Job}
use Rattle.job.specs.Job.{left_in}
use Rattle.job.specs.Fit.{Fit}
use Rattle.book.specs.Format.{book_of}
use Rattle.gus.specs.declared.Part.{Part}
use Rattle.gus.specs.Victims.{victims_of, knot_of}
use Rattle.gus.specs.Plan.{answer_to}
use Rattle.invariants.specs.Sound.{Sound}
use Rattle.laws.specs.Among.{among-at}
use Rattle.invariants.proofs.Victims.{victims-on}
use Rattle.invariants.specs.Replay.{Replay}
use Rattle.invariants.specs.End.{Small}
use Rattle.opening.specs.Small.{small-after-all}
use Rattle.opening.specs.Planned.{view_from, answer_from}
use Rattle.opening.proofs.Opened.{accepted-opened}
use Rattle.replay.specs.Sentences.{part_at}
use Rattle.replay.specs.Parts.{sound-all, parts-before, part-proper}
use Rattle.replay.specs.ReadFields.{TimesFit, JobsFit}
use Rattle.replay.specs.Reads.{Fits}

-- what a job has left is at most the never mark
left-most : (b : Bool) {j : Job} → Fit j → j.run ≤ 65535 → left_in b j ≤ 65535
left-most true f h = f.most
left-most false f h = h

module _ {js : List Job} {ps : List Part} (s : Sound js) (r : Replay js ps) where
  jobs-fit : JobsFit ps
  jobs-fit k l = omega (arith, (part-proper k r l).alive.there)

  times-fit : Small js → TimesFit ps
  times-fit m k l =
      let p : Part = part_at ps k in
      omega (arith, (part-proper k r l).left, left-most p.rolling ((sound-all s (parts-before k r)).fit p.job) ((small-after-all m (take k ps)).run p.job))

module _ (s : List ℕ) (e : (book_of s).number ≡ 0) (none : 32 ≤ knot_of (view_from (book_of s)) (book_of s).now) where
  victim-fits : (k : ℕ) → k < length (answer_from (book_of s)).victims → get_or (answer_from (book_of s)).victims k 0 ≤ 255
  unfolding answer_to
  victim-fits k l =
      let victims : List ℕ = victims_of (view_from (book_of s)) (book_of s).now in
      omega (arith, (victims-on (view_from (book_of s)) (book_of s).now none (get_or victims k 0) (among-at victims k l)).0.node)

  pub answer-fits : Fits (answer_from (book_of s))
  answer-fits =
      let p = (accepted-opened s e).planned none in
      record {
        few_victims = p.victims;
        few_parts = p.parts;
        victims = victim-fits;
        jobs = jobs-fit p.ready.sound p.replayed.replay;
        times = times-fit p.ready.sound p.replayed.replay p.small;
        rounds = omega (arith, p.rounds_most);
        above = omega (arith, p.total_most);
        below = omega (arith, p.total_some);
        end = omega (arith, p.end, (accepted-opened s e).now);
      }
