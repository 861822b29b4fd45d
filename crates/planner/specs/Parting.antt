-- The loop that lays out a group's parts by the modes of its members.
use Rattle.std.specs.Prelude.{◌≡◌, refl, Bool, false, ℕ, ◌+◌, ◌-◌, ◌<◌, ◌≤◌, get_or, set, drop}
use Rattle.std.proofs.Common.{sym, ap, ◌∙◌, arith, get_or-drop, drop-drop}
use mathlib.Core.List.{List, [], ◌∷◌, ◌++◌}
use Rattle.std.proofs.Math.ListN.{length, replicate}
use Rattle.laws.specs.Fill.{Pushing, padded, push-begin, push-next, push-ended, push-length}
use Rattle.laws.specs.Placed.{chain_in, chain-none}
use Rattle.gus.specs.declared.Part.{Part}
use Rattle.gus.specs.declared.Course.{Course}
use Rattle.gus.specs.View.{View}
use Rattle.gus.specs.Course.{start, onward}
use Rattle.gus.specs.Waits.{chain_of}
use Rattle.gus.specs.Choice.{Way}
use Rattle.gus.specs.Group.{part_of, grow, group_of}
use Rattle.planner.specs.declared.GroupParts.{GroupParts}
use Rattle.planner.specs.Turn.{span_at, part_at}
use Rattle.planner.specs.Choosing.{mode_at}
use Rattle.planner.specs.LaidOut.{empty_part, laid_out}
use Rattle.planner.specs.Growing.{modes_of, modes_out, ahead, grown, grow-turn}

module _ (way : Way) (v : View) (t : ℕ) (members : List ℕ) (from : ℕ) (modes : List Bool) where
  -- n parts are laid out; those of the members from place k on are to come, from some course on, and their modes are next in the row
  pub record Parting (parts : List Part) (n k : ℕ) : Type 0 where
    pub course : Course
    pub after : List Bool
    pub within : k ≤ 32
    pub places : n ≤ k
    pub coming : drop n modes ≡ modes_of (grown way v t members k course) ++ after
    pub pushing : Pushing 32 empty_part (grown way v t members from start).parts (grown way v t members k course).parts parts n

  pub parting-begin : from < 32 → modes ≡ modes_out (grown way v t members from start) → Parting (replicate 32 empty_part) 0 from
  unfolding padded
  parting-begin h e = record {
    course = start;
    after = replicate (32 - length (modes_of (grown way v t members from start))) false;
    within = omega arith;
    places = omega arith;
    coming = e;
    pushing = push-begin;
  }

  pub parting-next : {parts : List Part} {n k : ℕ} {x : Part} → k < 32 → Parting parts n k → x ≡ part_at v members k (get_or modes n false) → Parting (set parts n x) (n + 1) (k + 1)
  parting-next {parts} {n} {k} {x} h p g =
      let c : Course = p.course in
      let mode : Bool = mode_at way v t members k c in
      let time : ℕ = span_at v members k mode in
      let d : Course = onward v t (get_or members k 0) mode time c in
      let turn : grown way v t members k c ≡ ahead (part_of (get_or members k 0) mode time) (grown way v t members (k + 1) d) = grow-turn way v t members (record { more = h; job = refl; mode = refl; span = refl; course = refl }) in
      let coming : drop n modes ≡ mode ∷ (modes_of (grown way v t members (k + 1) d) ++ p.after) = rw turn at p.coming in
      let here : n + 0 ≡ n = omega arith in
      let same : get_or modes n false ≡ mode = (rw here at (sym (get_or-drop n modes 0 false))) ∙ ap (λ (l : List Bool). get_or l 0 false) coming in
      record {
        course = d;
        after = p.after;
        within = omega arith;
        places = omega (arith, p.places);
        coming = sym (drop-drop 1 n modes) ∙ ap (λ (l : List Bool). drop 1 l) coming;
        pushing = rw (g, same) (push-next (rw turn at p.pushing) (omega (arith, p.places)));
      }

  pub parting-ended : {parts : List Part} {n k : ℕ} {c : Course} (i : ℕ) → Parting parts n k → 32 ≤ k → chain_in members from ≡ chain_of v.waits i → c ≡ (grown way v t members from start).course →
      ◌≡◌ {A = GroupParts} (record { parts = parts; count = n; course = c }) (laid_out (group_of way v t i))
  unfolding group_of laid_out grow
  parting-ended {parts} {n} {k} {c} i p h q e =
      let z : k ≡ 32 = omega (arith, p.within) in
      let last : grown way v t members k p.course ≡ record { parts = []; course = p.course } = rw (z, chain-none) in
      let pushed : Pushing 32 empty_part (grown way v t members from start).parts [] parts n = rw last at p.pushing in
      rw (← q) (λ j. record { parts = push-ended pushed j; count = push-length pushed j; course = e j })
