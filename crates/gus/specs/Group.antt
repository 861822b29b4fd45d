-- The group of a job: the parts along its chain (VI.3), for any way of choosing a mode.
use Rattle.std.specs.Prelude.{Bool, List, [], ◌∷◌, ℕ}
use Rattle.gus.specs.declared.Part.{Part}
use Rattle.gus.specs.declared.Course.{Course}
use Rattle.gus.specs.Waits.{chain_of}
use Rattle.gus.specs.View.{View}
use Rattle.gus.specs.Course.{start, span, whole, to_free, to_end}
use Rattle.gus.specs.Choice.{Way}

pub record Group : Type 0 where
  pub parts : List Part
  pub course : Course

abbrev pub part_of : ℕ → Bool → ℕ → Part
part_of i b n = record { job = i; rolling = b; time = n }

unfoldable pub grow : Way → View → ℕ → List ℕ → Course → Group
grow way v t [] c = record { parts = []; course = c }
grow way v t (i ∷ []) c = record { parts = part_of i (v.rolling i) (whole v (v.rolling i) i) ∷ []; course = to_end v t i c }
grow way v t (i ∷ k ∷ ks) c =
    let b = way v t i k ks c in
    let g = grow way v t (k ∷ ks) (to_free v t i k b c) in
    record { parts = part_of i b (span v b k) ∷ g.parts; course = g.course }

-- the group of job i at the planned moment t
unfoldable pub group_of : Way → View → ℕ → ℕ → Group
group_of way v t i = grow way v t (chain_of v.waits i) start
