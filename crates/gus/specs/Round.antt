-- The rounds (VI.1), for any way of choosing a mode.
use Rattle.std.specs.Prelude.{Bool, true, false, List, [], ◌++◌, ℕ, zero, suc, ◌+◌, ℤ, pos, ◌+ℤ◌}
use Rattle.std.specs.Int.Signed.{lt_z}
use Rattle.laws.specs.Count.{upto}
use Rattle.job.specs.declared.Job.{Job}
use Rattle.gus.specs.declared.Part.{Part}
use Rattle.gus.specs.declared.Course.{Course}
use Rattle.gus.specs.declared.Best.{Best}
use Rattle.gus.specs.State.{after_all}
use Rattle.gus.specs.View.{Pay, View, view_of}
use Rattle.gus.specs.Course.{start, denser}
use Rattle.gus.specs.Choice.{Way}
use Rattle.gus.specs.Group.{Group, group_of}

-- "The group of greatest utility per millisecond, ties to the lowest last job": job i against the best of those before it
unfoldable pub better : ℕ → Course → Best → Best
better i c b = elim b.some [
  | true ↦ elim (denser c b.course) [ true ↦ record { some = true; last = i; course = c } | false ↦ b ]
  | false ↦ record { some = true; last = i; course = c }
]

-- "A group in which any job would finish at a moment with none is not a candidate" (R-7): it is passed over, and no density of it is compared
unfoldable pub offered : ℕ → Course → Best → Best
offered i c b = elim c.inside [ true ↦ better i c b | false ↦ b ]

unfoldable pub consider : Way → View → ℕ → ℕ → Best → Best
consider way v t i b = elim (v.left i) [ true ↦ offered i (group_of way v t i).course b | false ↦ b ]

abbrev pub no_best : Best
no_best = record { some = false; last = 0; course = start }

unfoldable pub best_of : Way → View → ℕ → Best
best_of way v t = upto (consider way v t) 32 no_best

pub record Plan : Type 0 where
  pub parts : List Part
  pub rounds : ℕ
  pub total : ℤ
  pub end : ℕ

abbrev pub stop : ℕ → Plan
stop t = record { parts = []; rounds = 0; total = pos 0; end = t }

abbrev pub joined : Group → Plan → Plan
joined g p = record { parts = g.parts ++ p.parts; rounds = suc p.rounds; total = g.course.gain +ℤ p.total; end = p.end }

-- "is appended if above zero, and a round is counted. Otherwise the plan ends." Where there is no candidate, nothing is above zero.
abbrev pub worthwhile : Course → Bool
worthwhile c = lt_z (pos 0) c.gain

-- at most n rounds from the jobs js at the planned moment t; chains are built afresh in each
unfoldable pub rounds : ℕ → Way → Pay → List Job → ℕ → Plan
rounds zero way pay js t = stop t
rounds (suc n) way pay js t =
    let b = best_of way (view_of pay js) t in
    elim (worthwhile b.course) [
      | true ↦
          let g = group_of way (view_of pay js) t b.last in
          joined g (rounds n way pay (after_all js g.parts) (t + g.course.time))
      | false ↦ stop t
    ]
