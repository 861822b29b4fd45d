-- The choice of a mode, taken apart as the code takes it.
use Rattle.std.specs.Prelude.{◌≡◌, Bool, false, List, ◌∷◌, ℕ, ◌+◌, ◌<◌, ◌≤◌, ltb, get_or}
use Rattle.std.proofs.Common.{sym, ◌∙◌}
use Rattle.std.proofs.Math.Bool.{true}
use borrow.Author.Tests.{ne_eqb, lt-ltb, le-ltb}
use Rattle.job.specs.Times.{never}
use Rattle.gus.specs.declared.Course.{Course}
use Rattle.gus.specs.View.{View}
use Rattle.gus.specs.Course.{to_free}
use Rattle.gus.specs.Choice.{Way, reckon, preferred, by_density}
use Rattle.invariants.specs.Fair.{Fair}
use Rattle.laws.specs.Placed.{chain_in, chain_next}
use Rattle.planner.specs.Lost.{lost-onward, lost-reckon, back-lost}

-- the mode of the member at place k of 32, by any way; the last one keeps its own
abbrev pub mode_at : Way → View → ℕ → List ℕ → ℕ → Course → Bool
mode_at way v t members k c = elim (ltb k 31) [ true ↦ way v t (get_or members k 0) (get_or members (k + 1) 0) (chain_in members (k + 2)) c | false ↦ v.rolling (get_or members k 0) ]

module _ (way : Way) (v : View) (t : ℕ) (members : List ℕ) (k : ℕ) (c : Course) {i : ℕ} (p : i ≡ get_or members k 0) where
  pub chosen_last : 31 ≤ k → v.rolling i ≡ false → false ≡ mode_at way v t members k c
  chosen_last h e = rw (le-ltb k 31 h, mode_at, rw p at e)

  pub chosen-already : Fair way → v.rolling i ≡ true → true ≡ mode_at way v t members k c
  chosen-already f e = by (ltb k 31)
    where
      by : (b : Bool) → true ≡ elim b as (λ _. Bool) [ true ↦ way v t (get_or members k 0) (get_or members (k + 1) 0) (chain_in members (k + 2)) c | false ↦ v.rolling (get_or members k 0) ]
      by true = sym (f.keeps v t _ _ _ c (rw p at e))
      by false = sym (rw p at e)

  pub chosen-never : Fair way → k < 31 → v.rolling i ≡ false → v.rollback i ≡ never → false ≡ mode_at way v t members k c
  chosen-never f h e n = rw (lt-ltb k 31 h, mode_at) (sym (f.spares v t _ _ _ c (rw p at e) (rw p at n)))

-- 01's way. "both courses are reckoned to the end of the chain": job i rolls back until what x requests is free, or runs until then, and the
-- rest goes on from there
unfoldable pub undone_wins : View → ℕ → ℕ → ℕ → List ℕ → Course → Bool
undone_wins v t i x rest c = preferred (reckon v t rest (to_free v t i x true c)) (reckon v t rest (to_free v t i x false c))

module _ (v : View) (t : ℕ) where
  undone : (i x : ℕ) (l : List ℕ) (c : Course) → v.rolling i ≡ false → (v.rollback i ≡ never → ⊥) → undone_wins v t i x (x ∷ l) c ≡ by_density v t i x l c
  unfolding by_density undone_wins
  undone i x l c e n = rw (e, by_density, ne_eqb _ _ n)

  pub chosen : (members : List ℕ) (k : ℕ) (c : Course) (i : ℕ) (r : Bool) → k < 31 → i ≡ get_or members k 0 → v.rolling i ≡ false → (v.rollback i ≡ never → ⊥) → r ≡ undone_wins v t (get_or members k 0) (get_or members (k + 1) 0) (chain_in members (k + 1)) c → r ≡ mode_at by_density v t members k c
  chosen members k c i r h p e n u = rw (lt-ltb k 31 h, mode_at, ← p) ((rw (chain_next members k h, ← p) at u) ∙ undone i (get_or members (k + 1) 0) (chain_in members (k + 2)) c e n)

  -- where none is among the credits of the group so far it is among those of both courses, and "normal wins"
  lost : (i x : ℕ) (rest : List ℕ) (c : Course) → c.inside ≡ false → false ≡ undone_wins v t i x rest c
  unfolding undone_wins to_free
  lost i x rest c e = back-lost _ _ (lost-reckon v t rest (to_free v t i x true c) (lost-onward v t i true _ c e))

  pub chosen-lost : (members : List ℕ) (k : ℕ) (c : Course) (i : ℕ) → k < 31 → i ≡ get_or members k 0 → v.rolling i ≡ false → (v.rollback i ≡ never → ⊥) → c.inside ≡ false → false ≡ mode_at by_density v t members k c
  chosen-lost members k c i h p e n q = chosen members k c i false h p e n (lost _ _ _ c q)
