-- `planner::chain::Chain::better_undone` meets its contract.
use mathlib.Core.Path.{◌≡◌, refl, sym, ◌∙◌}
use mathlib.Core.List.{List}
use mathlib.Core.Bool.{Bool, true, false}
use Prim.Native.Nat.{ℕ, ◌+◌, ◌<◌}
use native.Mathlib.Omega.{arith}
use lib.IntN.{ℤ, pos, ◌+ℤ◌}
use lib.ListN.{get_or}
use mir.Syntax.{w32, w64}
use mir.Val.{SFits, to_z, of_z}
use mir.Facts.{to_z-of_z}
use borrow.Author.Rules.{rules}
use Rattle.laws.specs.Placed.{Below, chain_in}
use Rattle.std.specs.Prelude.{◌*◌, ◌≤◌, nat_abs, Option, None, Some}
use Rattle.gus.specs.declared.Course.{Course}
use Rattle.gus.specs.View.{View}
use Rattle.gus.specs.Course.{earned, denser}
use Rattle.gus.specs.Choice.{reckon}
use Rattle.planner.specs.Asking.{Seeing, Earning, Undoing, Lasting}
use Rattle.planner.specs.Lost.{credited, inside-after}
use Rattle.planner.specs.Turn.{Own, span_at, credit-small}
use Rattle.planner.specs.Reckoning.{Reckoning, earning, reckoning-small, reckoning-lasting, reckoning-next, reckoning-lost, reckoning-inside, reckoning-ended, course, run-first, run-lost, undone-first, begins, wins-undone-lost, wins-normal-lost, wins-denser}
use Rattle.planner.proofs.chain.Chain.better_undone.Goals as goal

-- ---- THE TWO COURSES with which the loop begins: the job rolls back, or it runs and earns z
module _ {v : View} {members : List ℕ} {t k next : ℕ} {c₀ : Course} (u : Undoing v t members k c₀) (f : SFits w32 c₀.gain) (second : next ≡ get_or members (k + 1) 0) where
  undid : {undo : ℕ} → ((i m : ℕ) → v.worth true i m ≡ Some (pos 0)) → undo ≡ v.undo next → credited (c₀.time + undo) (to_z w32 (of_z w32 c₀.gain)) ≡ course v t members k c₀ u.along u.more true
  undid none e = rw (to_z-of_z f) (undone-first _ _ _ _ _ u.along u.more u.inside none _ _ second e)

  ran : {job hold : ℕ} {z sum : ℤ} → job ≡ get_or members k 0 → hold ≡ v.hold next → Some z ≡ earned v job false hold (t + (c₀.time + hold))
      → SFits w64 z → SFits w32 sum → sum ≡ to_z w32 (of_z w32 c₀.gain) +ℤ to_z w64 (of_z w64 z) → credited (c₀.time + hold) (to_z w32 (of_z w32 sum)) ≡ course v t members k c₀ u.along u.more false
  ran {z = z} {sum = sum} first e w wide fits plus = run-first _ _ _ _ _ u.along u.more u.inside _ _ _ first second e z (to_z w32 (of_z w32 sum)) w (rw (to_z-of_z fits, plus, to_z-of_z f, to_z-of_z wide))

-- ---- A TURN of the loop: the member at place i, in its own mode, for as long as it takes so
record Member (v : View) (t : ℕ) (members : List ℕ) (i job : ℕ) (back : Bool) (n : ℕ) : Type 0 where
  seeing : Seeing v t
  below : Below 32 members
  more : i < 32
  own : Own v members i job back n

member : {v : View} {members : List ℕ} {t k i job n : ℕ} {c₀ : Course} {back : Bool} → Undoing v t members k c₀ → i < 32 → Own v members i job back n → Member v t members i job back n
member u more own = record { seeing = u.along.seeing; below = u.along.members_below; more = more; own = own }

module _ {v : View} {t from time i job n : ℕ} {members : List ℕ} {c₀ : Course} {back : Bool} {gain : ℤ} (r : Reckoning v t members from c₀ (credited time gain) i) (m : Member v t members i job back n) where
  long : n ≡ span_at v members i (v.rolling job)
  long = let o = m.own in rw o.mode at o.span

  in_own_mode : {w : Option ℤ} → w ≡ earned v job back n (t + (time + n)) → w ≡ earned v job (v.rolling job) n (t + (time + n))
  in_own_mode e = let o = m.own in rw o.mode at e

  asked : Earning t job (time + n)
  asked = earning _ _ _ _ _ _ _ _ r m.seeing m.below _ _ m.more m.own.job long

  lasting : Lasting v t members i (time + n)
  lasting = reckoning-lasting _ _ _ _ _ _ _ _ r m.seeing m.below _ _ m.more m.own.job long

  lost : None ≡ earned v job back n (t + (time + n)) → (reckon v t (chain_in members from) c₀).inside ≡ false
  lost e = reckoning-lost _ _ _ _ _ _ _ _ r m.seeing m.below _ _ m.more m.own.job long (in_own_mode e)

  -- what it earns can be added, and the course goes on with it
  module _ {z : ℤ} (e : Some z ≡ earned v job back n (t + (time + n))) (wide : SFits w64 z) where
    small : (nat_abs gain ≤ 31 * 1000000) × (nat_abs (to_z w64 (of_z w64 z)) ≤ 1000000)
    small = rw (to_z-of_z wide) (reckoning-small _ _ _ _ _ _ _ _ r m.seeing m.below _ _ m.more m.own.job long z (in_own_mode e))

    goes_on : {sum : ℤ} → SFits w32 sum → sum ≡ gain +ℤ to_z w64 (of_z w64 z) → Reckoning v t members from c₀ (credited (time + n) (to_z w32 (of_z w32 sum))) (i + 1)
    goes_on {sum} fits plus = reckoning-next _ _ _ _ _ _ _ _ r m.seeing m.below _ _ m.more m.own.job long z (to_z w32 (of_z w32 sum)) (in_own_mode e) (rw (to_z-of_z fits, plus, to_z-of_z wide))

-- ---- before the loop
-- by none where the job would run, the other course is asked alone
pub returns-in_default : goal.returns-in_default
returns-in_default c =
    let u = c.requires in
    wins-normal-lost _ _ _ _ _ u.along u.more _ _ refl (undid u (search rules) c.from-next.ensures (λ i m. refl) c.cell-2.ensures.value)
    (c.stays_inside.ensures ∙ inside-after _ _ _ _ _)
    (run-lost _ _ _ _ _ u.along u.more u.inside _ _ _ c.from-job.ensures c.from-next.ensures c.cell.ensures.value (sym c.in_default.is ∙ c.earn.ensures))

pub plus-gain-requires : goal.plus-gain-requires
plus-gain-requires c =
    let f : SFits w32 c.args.c.gain = search rules in
    let wide : SFits w64 c.in-Some.credit = search rules in
    rw (to_z-of_z f, to_z-of_z wide) (omega (arith, c.requires.along.small.gain, c.requires.more), credit-small _ c.requires.along.seeing.modest _ false _ _ _ (sym c.in-Some.is ∙ c.earn.ensures))

pub loop-i-init : goal.loop-i-init
loop-i-init c =
    let u = c.requires in
    let f : SFits w32 c.args.c.gain = search rules in
    let undid = undid u f c.from-next.ensures (λ i m. refl) c.cell-2.ensures.value in
    let ran = ran u f c.from-next.ensures c.from-job.ensures c.cell.ensures.value (sym c.in-Some.is ∙ c.earn.ensures) (search rules) (search rules) c.plus-gain.ensures in
    (begins _ _ _ _ _ u.along u.more false _ ran, begins _ _ _ _ _ u.along u.more true _ undid)

-- ---- in the loop
pub overflow_add-time-in-loop-i : goal.overflow_add-time-in-loop-i
overflow_add-time-in-loop-i c = omega (arith, (asked c.loop-i.invariant.0 (member c.requires c.loop-i-test.true c.own_stint-stint.ensures)).time_small)

pub overflow_add-undone_time-in-loop-i : goal.overflow_add-undone_time-in-loop-i
overflow_add-undone_time-in-loop-i c = omega (arith, (asked c.loop-i.invariant.1 (member c.requires c.loop-i-test.true c.own_stint-stint.ensures)).time_small)

pub earn-requires-in-loop-i : goal.earn-requires-in-loop-i
earn-requires-in-loop-i c = asked c.loop-i.invariant.1 (member c.requires c.loop-i-test.true c.own_stint-stint.ensures)

-- by none in the course of rolling back it is decided
pub returns-in_default-earn : goal.returns-in_default-earn
returns-in_default-earn c =
    let u = c.requires in
    let f : SFits w32 c.args.c.gain = search rules in
    let undid = undid u f c.from-next.ensures (λ i m. refl) c.cell-2.ensures.value in
    let ran = ran u f c.from-next.ensures c.from-job.ensures c.cell.ensures.value (sym c.in-Some.is ∙ c.earn.ensures) (search rules) (search rules) c.plus-gain.ensures in
    let m = member u c.loop-i-test.true c.own_stint-stint.ensures in
    wins-undone-lost _ _ _ _ _ u.along u.more _ _ ran undid (lost c.loop-i.invariant.1 m (sym c.in_default-earn.is ∙ c.earn-in-loop-i.ensures))

pub plus-undone_gain-requires : goal.plus-undone_gain-requires
plus-undone_gain-requires c =
    let m = member c.requires c.loop-i-test.true c.own_stint-stint.ensures in
    small c.loop-i.invariant.1 m (sym c.in-Some-earn.is ∙ c.earn-in-loop-i.ensures) (search rules)

pub earn-requires-in-loop-i-2 : goal.earn-requires-in-loop-i-2
earn-requires-in-loop-i-2 c = asked c.loop-i.invariant.0 (member c.requires c.loop-i-test.true c.own_stint-stint.ensures)

pub stays_inside-requires-in_default-earn-2 : goal.stays_inside-requires-in_default-earn-2
stays_inside-requires-in_default-earn-2 c = lasting c.loop-i.invariant.1 (member c.requires c.loop-i-test.true c.own_stint-stint.ensures)

-- by none in the normal course the other is asked alone
pub returns-in_default-earn-2 : goal.returns-in_default-earn-2
returns-in_default-earn-2 c =
    let u = c.requires in
    let f : SFits w32 c.args.c.gain = search rules in
    let undid = undid u f c.from-next.ensures (λ i m. refl) c.cell-2.ensures.value in
    let ran = ran u f c.from-next.ensures c.from-job.ensures c.cell.ensures.value (sym c.in-Some.is ∙ c.earn.ensures) (search rules) (search rules) c.plus-gain.ensures in
    let m = member u c.loop-i-test.true c.own_stint-stint.ensures in
    let next = goes_on c.loop-i.invariant.1 m (sym c.in-Some-earn.is ∙ c.earn-in-loop-i.ensures) (search rules) (search rules) c.plus-undone_gain.ensures in
    wins-normal-lost _ _ _ _ _ u.along u.more _ _ ran undid
    (c.stays_inside-in_default-earn-2.ensures ∙ reckoning-inside _ _ _ _ _ _ _ _ next)
    (lost c.loop-i.invariant.0 m (sym c.in_default-earn-2.is ∙ c.earn-in-loop-i-2.ensures))

pub plus-gain-requires-in-loop-i : goal.plus-gain-requires-in-loop-i
plus-gain-requires-in-loop-i c =
    let m = member c.requires c.loop-i-test.true c.own_stint-stint.ensures in
    small c.loop-i.invariant.0 m (sym c.in-Some-earn-2.is ∙ c.earn-in-loop-i-2.ensures) (search rules)

pub loop-i-preserved : goal.loop-i-preserved
loop-i-preserved c =
    let m = member c.requires c.loop-i-test.true c.own_stint-stint.ensures in (
      goes_on c.loop-i.invariant.0 m (sym c.in-Some-earn-2.is ∙ c.earn-in-loop-i-2.ensures) (search rules) (search rules) c.plus-gain-in-loop-i.ensures,
      goes_on c.loop-i.invariant.1 m (sym c.in-Some-earn.is ∙ c.earn-in-loop-i.ensures) (search rules) (search rules) c.plus-undone_gain.ensures,
    )

-- ---- after it
pub returns : goal.returns
unfolding denser
returns c =
    let u = c.requires in
    let f : SFits w32 c.args.c.gain = search rules in
    let undid = undid u f c.from-next.ensures (λ i m. refl) c.cell-2.ensures.value in
    let ran = ran u f c.from-next.ensures c.from-job.ensures c.cell.ensures.value (sym c.in-Some.is ∙ c.earn.ensures) (search rules) (search rules) c.plus-gain.ensures in
    let l = c.loop-i in
    let h = c.loop-i-test.false in
    c.denser.ensures
    ∙ wins-denser _ _ _ _ _ u.along u.more _ _ ran undid (reckoning-ended _ _ _ _ _ _ _ _ l.invariant.1 h) (reckoning-ended _ _ _ _ _ _ _ _ l.invariant.0 h) refl refl
