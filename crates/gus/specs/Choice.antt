-- The choice of a mode (VI.5, with line 31 read as 01 says, and the sentences of R-3 and R-7 of 02).
use Rattle.std.specs.Prelude.{Bool, true, false, List, [], ◌∷◌, ℕ, eqb}
use Rattle.job.specs.Times.{never}
use Rattle.gus.specs.declared.Course.{Course}
use Rattle.gus.specs.View.{View}
use Rattle.gus.specs.Course.{to_free, to_end, denser}

-- a way to choose a mode, true for rollback: the planned moment, the job, the next job and those after it, the group so far
abbrev pub Way : Type 0
Way = View → ℕ → ℕ → ℕ → List ℕ → Course → Bool

-- "reckoned to the end of the chain, later jobs taken as normal unless in rollback"; "the choice credits a job before the last only where its
-- hold is all its run time left" (R-3), which is what its part earns in a group
unfoldable pub reckon : View → ℕ → List ℕ → Course → Course
reckon v t [] c = c
reckon v t (i ∷ []) c = to_end v t i c
reckon v t (i ∷ k ∷ ks) c = reckon v t (k ∷ ks) (to_free v t i k (v.rolling i) c)

-- whether the course of rolling back wins over the normal one: "a course with none among its credits loses to one without, and if both have it
-- normal wins" (R-7); "Normal wins ties"
unfoldable pub preferred : Course → Course → Bool
preferred back normal = elim back.inside [
  | true ↦ elim normal.inside [ true ↦ denser back normal | false ↦ true ]
  | false ↦ false
]

-- "rollback if already so; normal if marked never. Else both courses are reckoned"
unfoldable pub by_density : Way
by_density v t i k ks c =
    elim (v.rolling i) [
      | true ↦ true
      | false ↦
          elim (eqb (v.rollback i) never) [
            | true ↦ false
            | false ↦ preferred (reckon v t (k ∷ ks) (to_free v t i k true c)) (reckon v t (k ∷ ks) (to_free v t i k false c))
          ]
    ]
