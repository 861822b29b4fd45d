-- The walk along a chain that grows a group: its invariant, begun, carried on and ended.
use Rattle.std.specs.Prelude.{◌≡◌, refl, Bool, cond, List, [], ◌∷◌, map, ℕ, ◌+◌, ◌<◌, ◌≤◌, ltb, get_or, set, replicate}
use Rattle.std.proofs.Common.{sym, ap, ◌∙◌, add-one, arith}
use Rattle.std.proofs.Math.Bool.{true, false}
use borrow.Author.Tests.{ltb-true, ltb-false}
use Rattle.laws.specs.Fill.{Pushing, padded, push-begin, push-next, push-ended}
use Rattle.laws.specs.Placed.{chain_in, chain-two, chain_next, chain-last, chain-none}
use Rattle.gus.specs.declared.Part.{Part}
use Rattle.gus.specs.declared.Course.{Course}
use Rattle.gus.specs.View.{View}
use Rattle.gus.specs.Course.{start, span, whole, onward, to_free, to_end}
use Rattle.gus.specs.Choice.{Way}
use Rattle.gus.specs.Group.{Group, part_of, grow}
use Rattle.planner.specs.Bounds.{Modest, short, Small, small-start}
use Rattle.planner.specs.Asking.{Along}
use Rattle.planner.specs.Turn.{span_at, span-short, small-onward}
use Rattle.planner.specs.Choosing.{mode_at}

-- the modes of a group's parts, and in a row of 32
abbrev pub modes_of : Group → List Bool
modes_of g = map (λ (p : Part). p.rolling) g.parts

abbrev pub modes_out : Group → List Bool
modes_out g = padded 32 false (modes_of g)

-- a part before a group
abbrev pub ahead : Part → Group → Group
ahead p g = record { parts = p ∷ g.parts; course = g.course }

module _ (way : Way) (v : View) (t : ℕ) (members : List ℕ) where
  -- what the members from place k on make after c
  abbrev pub grown : ℕ → Course → Group
  grown k c = grow way v t (chain_in members k) c

  -- what a walk from there on may rely on, with the row for its modes
  pub record Walking (from : ℕ) (modes : List Bool) : Type 0 where
    pub along : Along v t members from start
    pub idle : modes ≡ replicate 32 false

  -- one turn: the job i at place k takes n in the mode b, which leads from c to d
  pub record Turn (k i : ℕ) (c : Course) (b : Bool) (n : ℕ) (d : Course) : Type 0 where
    pub more : k < 32
    pub job : i ≡ get_or members k 0
    pub mode : b ≡ mode_at way v t members k c
    pub span : n ≡ span_at v members k b
    pub course : d ≡ onward v t i b n c

  -- the mode and the time of the member at place k, by whether another one comes after it
  mode : ℕ → Course → Bool → Bool
  mode k c more = elim more [ true ↦ way v t (get_or members k 0) (get_or members (k + 1) 0) (chain_in members (k + 2)) c | false ↦ v.rolling (get_or members k 0) ]

  time : ℕ → Bool → Bool → ℕ
  time k b more = cond more (span v b (get_or members (k + 1) 0)) (whole v b (get_or members k 0))

  grow-by : (k : ℕ) (c : Course) (more : Bool) → k < 32 → ltb k 31 ≡ more → grown k c ≡ ahead (part_of (get_or members k 0) (mode k c more) (time k (mode k c more) more)) (grown (k + 1) (onward v t (get_or members k 0) (mode k c more) (time k (mode k c more) more) c))
  unfolding grow mode time to_free to_end
  grow-by k c true h e =
      let l : k < 31 = ltb-true k 31 e in
      rw (chain-two members k l, chain_next members k l)
  grow-by k c false h e =
      let z : k ≡ 31 = omega (arith, ltb-false k 31 e) in
      rw (z, chain-last, chain-none)

  pub grow-turn : {k i : ℕ} {c : Course} {b : Bool} {n : ℕ} {d : Course} → Turn k i c b n d → grown k c ≡ ahead (part_of i b n) (grown (k + 1) d)
  unfolding mode time
  grow-turn {k} {i} {c} r = rw (r.course, r.span, r.mode, r.job) (grow-by k c (ltb k 31) r.more refl)

  module _ (from : ℕ) where
    -- n modes are noted and c is what the members before place k make; from c the others make what all make
    pub record Growing (modes : List Bool) (c : Course) (n k : ℕ) : Type 0 where
      pub within : k ≤ 32
      pub small : Small k c
      pub places : n ≤ k
      pub same : (grown k c).course ≡ (grown from start).course
      pub pushing : Pushing 32 false (modes_of (grown from start)) (modes_of (grown k c)) modes n

    pub growing-begin : {modes : List Bool} → Walking from modes → Growing modes start 0 from
    growing-begin w = record {
      within = omega (arith, w.along.place);
      small = small-start;
      places = omega arith;
      same = refl;
      pushing = rw w.idle push-begin;
    }

    pub growing-next : {modes : List Bool} {n k i : ℕ} {c : Course} {b : Bool} {s : ℕ} {d : Course} → Modest v → Growing modes c n k → Turn k i c b s d → Growing (set modes n b) d (n + 1) (k + 1)
    growing-next {modes} {n} {k} {i} {c} {b} {s} m g r = record {
      within = omega (arith, r.more);
      small = rw (add-one, r.course) (small-onward v m t i b s k c (rw r.span (span-short v (short m) members k b)) g.small);
      places = omega (arith, g.places);
      same = sym (ap (λ (g : Group). g.course) (grow-turn r)) ∙ g.same;
      pushing = push-next (rw (grow-turn r) at g.pushing) (omega (arith, g.places, r.more));
    }

    pub growing-ended : {modes : List Bool} {n k : ℕ} {c : Course} → Growing modes c n k → 32 ≤ k → (c ≡ (grown from start).course) × (modes ≡ modes_out (grown from start))
    unfolding grow
    growing-ended {modes} {n} {k} {c} g h =
        let e : k ≡ 32 = omega (arith, g.within) in
        let last : grown k c ≡ record { parts = []; course = c } = rw (e, chain-none) in
        (sym (ap (λ (g : Group). g.course) last) ∙ g.same, push-ended (rw last at g.pushing))
