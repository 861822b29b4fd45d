-- `planner::rounds::rounds` meets its contract: the plan so far, joined with the rounds left, is the whole plan, and the state is the one that the rounds reach.
use mathlib.Core.Path.{◌≡◌, refl, sym, ap}
use mathlib.Core.List.{List}
use mir.Syntax.{w32}
use mir.Val.{SFits, to_z, of_z}
use mir.Facts.{to_z-of_z}
use lib.IntN.{ℤ, ◌+ℤ◌}
use native.Mathlib.Omega.{arith}
use Prim.Native.Nat.{ℕ, suc, ◌+◌, ◌-◌, ◌<◌}
use lib.ListN.{length, get_or, set, take}
use lib.Seq.{get_or-take}
use Rattle.std.proofs.Common.{add-zero, add_assoc}
use Rattle.laws.specs.Signed.{fits-abs}
use Rattle.laws.proofs.Signed.{abs-add}
use Rattle.laws.specs.Fill.{padded}
use Rattle.gus.specs.Choice.{by_density}
use Rattle.gus.specs.Round.{rounds}
use Rattle.planner.specs.Round.{round_of}
use Rattle.invariants.specs.Fair.{by-density-fair}
use Rattle.invariants.specs.Replay.{runs-replay}
use Rattle.gus.specs.declared.Part.{Part}
use Rattle.planner.specs.declared.GroupParts.{GroupParts}
use Rattle.planner.specs.declared.PlanParts.{PlanParts}
use Rattle.planner.specs.declared.State.{State}
use Rattle.planner.specs.LaidOut.{laid_out}
use Rattle.planner.specs.Askers.{counted}
use Rattle.planner.specs.Applied.{no_part}
use Rattle.planner.specs.Applying.{made, worked-by}
use Rattle.planner.specs.Sheet.{seen}
use Rattle.planner.specs.Stage.{Stage, opening, round_at, stage_after}
use Rattle.planner.specs.Fitting.{sane-modest, round-runs}
use Rattle.planner.specs.Joining.{Joinable, fitting-moment, some-parts, no-parts, joinable, group-parts, group-length, round-joined}
use Rattle.planner.specs.Staged.{staged-begin, staged-stopped, staged-next, staged-ended}
use Rattle.planner.specs.Shown.{pay_in, shown-scanning, shown-round}
use Rattle.planner.specs.Working.{Starting, Going, working-begin, working-rework, working-next, working-ended, starting-askers, reached-next}
use Rattle.planner.proofs.rounds.rounds.Invariants.{stage_of}
use Rattle.planner.proofs.rounds.rounds.Goals as goal
use Rattle.planner.proofs.rounds.rounds.Goals.{Else-g-eq0}

-- A TURN of the outer loop, from the stage that the locals make: its group is the definition's. Where it has parts, they can be made one after the
-- other and joined to the plan
record Grouped (bytes : List ℕ) (s : Stage) (g : GroupParts) : Type 0 where
  same : g ≡ laid_out (round_at by_density (pay_in bytes) s)
  join : Joinable s g
  some : 0 < length (round_at by_density (pay_in bytes) s).parts
  long : length (take g.count g.parts) ≡ g.count
  total : to_z w32 (of_z w32 s.total) ≡ s.total
  gain : to_z w32 (of_z w32 g.course.gain) ≡ g.course.gain
  sum : SFits w32 (s.total +ℤ g.course.gain)

module _ {bytes : List ℕ} {n t i asking : ℕ} {start : State} {s : Stage} {askers : List ℕ} {g : GroupParts}
    (y : Starting bytes start n t) (l : Going bytes n (rounds 32 by_density (pay_in bytes) start.jobs t) (opening start t) s askers asking i)
    (made : g ≡ laid_out (round_of by_density (seen bytes s.state.sheet) s.moment)) where
  same-group : g ≡ laid_out (round_at by_density (pay_in bytes) s)
  same-group = shown-round bytes y.accepted l.staged.fits.jobs.ready.sound l.kept.rows by_density s.moment made

  grouped : 0 < g.count → Grouped bytes s g
  grouped h =
      let j = joinable by_density (pay_in bytes) s same-group by-density-fair l.staged.fits h in
      record {
        same = same-group;
        join = j;
        some = some-parts by_density (pay_in bytes) s same-group h;
        long = group-length by_density (pay_in bytes) s same-group;
        total = to_z-of_z {w = w32} (fits-abs _ (omega (arith, j.total)));
        gain = to_z-of_z {w = w32} (fits-abs _ (omega (arith, j.gain)));
        sum = fits-abs _ (omega (arith, j.total, j.gain, abs-add s.total g.course.gain));
      }

-- the group of a round that has one
group : (c : Else-g-eq0) → Grouped c.args.bytes.now (stage_of c.loop.state c.loop.plan) c.round-g.result
group c = grouped c.requires c.loop.invariant.going c.round-g.ensures (omega (arith, c.if-g-eq0.false))

-- whom each of its parts names
named : (c : Else-g-eq0) (k : ℕ) → k < length (take c.round-g.result.count c.round-g.result.parts) → (get_or (take c.round-g.result.count c.round-g.result.parts) k no_part).job < 32
named c k h =
    let g = group c in
    let below : k < c.round-g.result.count = omega (arith, g.long) in
    rw get_or-take (g.join.jobs.below k below)

-- the numbers of a plan that is as before but for its parts
numbers : {plan : PlanParts} {parts : List Part} {count rounds moment : ℕ} {total : ℤ} → plan ≡ record { parts = parts; count = count; rounds = rounds; total = total; moment = moment } → (plan.count ≡ count) × (plan.rounds ≡ rounds) × (plan.total ≡ total) × (plan.moment ≡ moment)
numbers e = (ap (λ (x : PlanParts). x.count) e, ap (λ (x : PlanParts). x.rounds) e, ap (λ (x : PlanParts). x.total) e, ap (λ (x : PlanParts). x.moment) e)

-- a round less is left
one-less : (i : ℕ) → i < 32 → 32 - i ≡ suc (32 - (i + 1))
one-less i h = omega arith

pub loop-init : goal.loop-init
unfolding opening padded stage_after counted
loop-init c =
    let y = c.requires in
    record {
      going = record { within = omega arith; staged = staged-begin y.sane y.now; reached = refl; idle = y.idle; kept = y.kept; asked = starting-askers y };
      counted = refl;
    }

pub round-g-requires : goal.round-g-requires
round-g-requires c =
    let y = c.requires in
    let l = c.loop.invariant.going in
    let f = l.staged.fits in
    shown-scanning c.args.bytes.now y.accepted f.jobs.ready.sound l.kept.rows (sane-modest f.jobs) l.idle y.few (fitting-moment f)

pub returns-then-g-eq0 : goal.returns-then-g-eq0
returns-then-g-eq0 c =
    let l = c.loop.invariant.going in
    let none = no-parts by_density _ (stage_of c.loop.state c.loop.plan) (same-group c.requires l c.round-g.ensures) (omega (arith, c.if-g-eq0.true)) in
    staged-stopped (rw (one-less c.loop.counter (omega arith)) at l.staged) none

pub slice_bounds-parts-end : goal.slice_bounds-parts-end
slice_bounds-parts-end c = omega (arith, (group (goal.at.slice_bounds-parts-end c).Else-g-eq0).join.few)

pub slice_bounds-p-items-end : goal.slice_bounds-p-items-end
slice_bounds-p-items-end c = sym (group (goal.at.slice_bounds-p-items-end c).Else-g-eq0).long

pub loop-p-init : goal.loop-p-init
loop-p-init c =
    let p = pay_in c.args.bytes.now in
    let l = c.loop.invariant.going in
    let g = group (goal.at.loop-p-init c).Else-g-eq0 in
    let runs = runs-replay (round-runs by-density-fair l.staged.fits g.some) in
    record {
      working = working-begin l.staged.fits.jobs.ready.sound (rw (group-parts by_density p (stage_of c.loop.state c.loop.plan) g.same) runs) l.idle l.kept l.asked;
      plan_is = simp add-zero;
    }

-- ---- a turn of the inner loop: a part of the group
pub bounds-state-number : goal.bounds-state-number
bounds-state-number c = omega (arith, c.from-number.ensures, named (goal.at.bounds-state-number c).Else-g-eq0 c.loop-p.p-index c.loop-p-test.true)

pub bounds-state-number-in-loop-p : goal.bounds-state-number-in-loop-p
bounds-state-number-in-loop-p c = omega (arith, c.from-number.ensures, named (goal.at.bounds-state-number-in-loop-p c).Else-g-eq0 c.loop-p.p-index c.loop-p-test.true)

pub put_worked-requires : goal.put_worked-requires
put_worked-requires c =
    let below = named (goal.at.put_worked-requires c).Else-g-eq0 c.loop-p.p-index c.loop-p-test.true in
    let w = c.loop-p.invariant.working in
    working-rework w _ below (worked-by c.loop-p.state.jobs _ below w.sound.size c.from-number.ensures c.worked_job-new.ensures)

pub bounds-plan-plan : goal.bounds-plan-plan
bounds-plan-plan c =
    let g = group (goal.at.bounds-plan-plan c).Else-g-eq0 in
    omega (arith, g.join.room, g.long, (numbers c.loop-p.invariant.plan_is).0, c.loop-p-test.true)

pub loop-p-preserved : goal.loop-p-preserved
loop-p-preserved c =
    let below = named (goal.at.loop-p-preserved c).Else-g-eq0 c.loop-p.p-index c.loop-p-test.true in
    let w = c.loop-p.invariant.working in
    let e = c.loop-p.invariant.plan_is in
    let part = made c.loop-p.state _ below w.sound.size c.from-number.ensures c.worked_job-new.ensures c.holders_after-state.ensures c.put_worked.ensures.row in
    record {
      working = rw (numbers e).0 (working-next w c.loop-p-test.true refl part c.put_worked.ensures.list);
      plan_is =
          let set_at = λ (x : PlanParts). let y : PlanParts = record x { parts = set c.loop-p.plan.parts c.loop-p.plan.count (get_or (take c.round-g.result.count c.round-g.result.parts) c.loop-p.p-index no_part); count = x.count + 1 } in y in
          rw (← add_assoc c.loop.plan.count c.loop-p.p-index 1) (ap set_at e);
    }

-- ---- the group is joined to the plan
pub overflow_add-plan-in-loop-2 : goal.overflow_add-plan-in-loop-2
overflow_add-plan-in-loop-2 c =
    let g = group (goal.at.overflow_add-plan-in-loop-2 c).Else-g-eq0 in
    rw ((numbers c.loop-p.invariant.plan_is).2, g.total, g.gain) g.sum

pub overflow_add-plan-in-loop-3 : goal.overflow_add-plan-in-loop-3
overflow_add-plan-in-loop-3 c =
    let g = group (goal.at.overflow_add-plan-in-loop-3 c).Else-g-eq0 in
    record { fits = omega (arith, g.join.moment, g.join.time, (numbers c.loop-p.invariant.plan_is).3) }

pub loop-preserved : goal.loop-preserved
loop-preserved c =
    let p = pay_in c.args.bytes.now in
    let g = group (goal.at.loop-preserved c).Else-g-eq0 in
    let l = c.loop.invariant.going in
    let w = c.loop-p.invariant.working in
    let same = numbers c.loop-p.invariant.plan_is in
    let done = working-ended w c.loop-p-test.false in
    let count : c.loop-p.plan.count ≡ c.loop.plan.count + c.round-g.result.count = omega (arith, g.long, same.0, c.loop-p-test.false) in
    let total : to_z w32 (of_z w32 (to_z w32 (of_z w32 c.loop-p.plan.total) +ℤ to_z w32 (of_z w32 c.round-g.result.course.gain))) ≡ c.loop.plan.total +ℤ c.round-g.result.course.gain =
    rw (same.2, g.total, g.gain) (to_z-of_z {w = w32} g.sum) in
    let joined = round-joined by_density p (stage_of c.loop.state c.loop.plan) g.same done.0 done.1 total in
    record {
      going = rw (count, same.1, same.3) (record {
        within = omega (arith, c.loop-test.true);
        staged = staged-next (rw (one-less c.loop.counter (omega arith)) at l.staged) by-density-fair g.some joined;
        reached = reached-next c.args.bytes.now (opening c.args.start c.args.t) c.loop.counter l.reached g.some joined;
        idle = w.idle;
        kept = w.kept;
        asked = w.asked;
      });
      counted = omega (arith, same.1, c.loop.invariant.counted);
    }

pub returns : goal.returns
returns c =
    let all : c.loop.counter ≡ 32 = omega (arith, c.loop-test.false) in
    staged-ended (rw all at c.loop.invariant.going.staged)
