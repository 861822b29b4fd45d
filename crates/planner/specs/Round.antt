-- ONE ROUND (VI.1), for any way of choosing a mode: the group that it appends, or one without parts.
use Rattle.std.specs.Prelude.{◌≡◌, refl, Bool, List, [], ◌++◌, ℕ, suc, ◌<◌, ◌≤◌, length}
use Rattle.std.proofs.Common.{sym, ap, ◌∙◌, arith}
use Rattle.std.proofs.Math.Bool.{true, false}
use Rattle.std.proofs.lemmas.Bool.{false≢true}
use Rattle.job.specs.declared.Job.{Job}
use Rattle.gus.specs.declared.Best.{Best}
use Rattle.gus.specs.declared.Part.{Part}
use Rattle.gus.specs.View.{Pay, View, view_of}
use Rattle.gus.specs.Course.{start}
use Rattle.gus.specs.Choice.{Way}
use Rattle.gus.specs.Group.{Group, group_of}
use Rattle.gus.specs.Round.{Plan, stop, joined, best_of, worthwhile, rounds}
use Rattle.planner.specs.declared.GroupParts.{GroupParts}
use Rattle.planner.specs.Bounds.{Modest, Small}
use Rattle.planner.specs.LaidOut.{laid_out}
use Rattle.planner.specs.Limits.{group-some, group-short, best-below, small-group}

abbrev pub no_group : Group
no_group = record { parts = []; course = start }

-- "is appended if above zero"
unfoldable pub round_of : Way → View → ℕ → Group
round_of way v t =
    let b = best_of way v t in
    elim (worthwhile b.course) [ true ↦ group_of way v t b.last | false ↦ no_group ]

module _ (way : Way) (v : View) (t : ℕ) where
  abbrev winner : Group
  winner = group_of way v t (best_of way v t).last

  winner-some : 0 < length winner.parts
  winner-some = group-some way v t (best_of way v t).last (best-below way v t)

  -- what is so of the best group where it is worth more than nothing, and of none otherwise, is so of the round's group
  by-worth : (P : Bool → Group → Type 0) → P true winner → P false no_group → P (worthwhile (best_of way v t).course) (round_of way v t)
  unfolding round_of
  by-worth P won over = by (worthwhile (best_of way v t).course)
    where
      by : (x : Bool) → P x (elim x [ true ↦ winner | false ↦ no_group ])
      by true = won
      by false = over

  pub round-won : worthwhile (best_of way v t).course ≡ true → round_of way v t ≡ winner
  round-won = by-worth (λ x g. x ≡ true → g ≡ winner) (λ e. refl) (λ e. absurd (false≢true e))

  round-over : worthwhile (best_of way v t).course ≡ false → round_of way v t ≡ no_group
  round-over = by-worth (λ x g. x ≡ false → g ≡ no_group) (λ e. absurd (false≢true (sym e))) (λ e. refl)

  -- it has a part exactly where a group is worth more than nothing
  pub some-won : 0 < length (round_of way v t).parts → worthwhile (best_of way v t).course ≡ true
  some-won = by-worth (λ x g. 0 < length g.parts → x ≡ true) (λ h. refl) (λ h. absurd (omega arith))

  pub none_over : length (round_of way v t).parts ≤ 0 → worthwhile (best_of way v t).course ≡ false
  none_over = by-worth (λ x g. length g.parts ≤ 0 → x ≡ false) (λ h. absurd (omega (arith, winner-some))) (λ h. refl)

  pub round-short : length (round_of way v t).parts ≤ 32
  round-short = by-worth (λ x g. length g.parts ≤ 32) (group-short way v t (best_of way v t).last) (omega arith)

  pub small-round : Modest v → Small 32 (round_of way v t).course
  small-round m = by-worth (λ x g. Small 32 g.course) (small-group way v t m (best_of way v t).last) (record { time = omega arith; gain = omega arith })

  -- the round as it is made: the best is sought, and then its group or none is laid out
  module _ {b : Best} (d : b ≡ best_of way v t) where
    pub last-below : {last : ℕ} → last ≡ b.last → last < 32
    last-below n = rw (n, d) (best-below way v t)

    tested : {x : Bool} → x ≡ worthwhile b.course → (y : Bool) → x ≡ y → worthwhile (best_of way v t).course ≡ y
    tested e y q = ap (λ (z : Best). worthwhile z.course) (sym d) ∙ sym e ∙ q

    module _ {x : Bool} (e : x ≡ worthwhile b.course) {r : GroupParts} where
      pub best-found : x ≡ true → {last : ℕ} → last ≡ b.last → r ≡ laid_out (group_of way v t last) → r ≡ laid_out (round_of way v t)
      best-found q n h = h ∙ ap (λ (i : ℕ). laid_out (group_of way v t i)) (n ∙ ap (λ (z : Best). z.last) d) ∙ ap laid_out (sym (round-won (tested e true q)))

      pub none_found : x ≡ false → r ≡ laid_out no_group → r ≡ laid_out (round_of way v t)
      none_found q h = h ∙ ap laid_out (sym (round-over (tested e false q)))

module _ (way : Way) (pay : Pay) (js : List Job) (t n : ℕ) where
  abbrev v : View
  v = view_of pay js

  -- THE PARTS OF ONE ROUND BEGIN THOSE OF ANY NUMBER: more may follow, but none come first, and none come without them
  pub rounds-begin : (P : List Part → List Part → Type 0) → ((ps rest : List Part) → 0 < length ps → P (ps ++ rest) ps) → P [] [] → P (rounds (suc n) way pay js t).parts (round_of way v t).parts
  unfolding rounds round_of
  rounds-begin P more none = by (worthwhile (best_of way v t).course) _
    where
      by : (x : Bool) (rest : Plan) → P (elim x as (λ _. Plan) [ true ↦ joined (winner way v t) rest | false ↦ stop t ]).parts (elim x as (λ _. Group) [ true ↦ winner way v t | false ↦ no_group ]).parts
      by true rest = more (winner way v t).parts rest.parts (winner-some way v t)
      by false rest = none
