-- A row of proper parts, by the number of a part and by the moment: what is done so far is such a row too.
use Rattle.std.specs.Prelude.{◌≡◌, refl, Bool, true, false, List, [], ◌∷◌, ℕ, zero, suc, ◌+◌, ◌-◌, ◌<◌, ◌≤◌, leb, eqb, length, take}
use Rattle.std.proofs.Common.{not-suc-le-zero, le_of_suc-le-suc, arith, leb-false}
use Rattle.std.proofs.lemmas.Bool.{eqb-false}
use Rattle.curve.specs.Worth.{defined}
use Rattle.job.specs.declared.Job.{Job}
use Rattle.gus.specs.declared.Part.{Part}
use Rattle.gus.specs.State.{job_at, after, after_all}
use Rattle.gus.specs.View.{Pay}
use Rattle.invariants.specs.Sound.{Sound}
use Rattle.invariants.specs.Proper.{Proper, sound-after}
use Rattle.invariants.specs.Replay.{Replay, over, then, lasts, earns, all_inside, both}
use Rattle.invariants.specs.Given.{OnlyRollback, OnceRollback}
use Rattle.invariants.proofs.Given.{rolling-kept}
use Rattle.replay.specs.Moments.{shortened, done_by}
use Rattle.replay.specs.Sentences.{part_at}

pub sound-all : {js : List Job} {ps : List Part} → Sound js → Replay js ps → Sound (after_all js ps)
unfolding after_all
sound-all s over = s
sound-all s (then g r) = sound-all (sound-after s g) r

-- PART k: the parts before it are proper, and so is it where it starts
pub parts-before : {js : List Job} {ps : List Part} (k : ℕ) → Replay js ps → Replay js (take k ps)
parts-before zero r = over
parts-before (suc k) over = over
parts-before {js = js} (suc k) (then {p = p} g r) = then g (parts-before {js = after js p} k r)

pub part-proper : {js : List Job} {ps : List Part} (k : ℕ) → Replay js ps → k < length ps → Proper (after_all js (take k ps)) (part_at ps k)
unfolding after_all
part-proper k over l = absurd (not-suc-le-zero l)
part-proper zero (then g r) l = g
part-proper (suc k) (then g r) l = part-proper k r (le_of_suc-le-suc l)

pub part-inside : (pay : Pay) (js : List Job) (t k : ℕ) (ps : List Part) → all_inside pay js t ps ≡ true → k < length ps → defined (earns pay (after_all js (take k ps)) (part_at ps k) (t + lasts (take k ps) + (part_at ps k).time)) ≡ true
unfolding all_inside after_all lasts
part-inside pay js t k [] i l = absurd (not-suc-le-zero l)
part-inside pay js t zero (p ∷ ps) i l =
    let e : t + 0 + p.time ≡ t + p.time = omega arith in
    rw e (both (defined (earns pay js p (t + p.time))) (all_inside pay (after js p) (t + p.time) ps) i).0
part-inside pay js t (suc k) (p ∷ ps) i l =
    let e : t + (p.time + lasts (take k ps)) + (part_at ps k).time ≡ t + p.time + lasts (take k ps) + (part_at ps k).time = omega arith in
    rw e (part-inside pay (after js p) (t + p.time) k ps (both (defined (earns pay js p (t + p.time))) (all_inside pay (after js p) (t + p.time) ps) i).1 (le_of_suc-le-suc l))

-- A MOMENT: a proper part that is broken off is proper
shortened-proper : {js : List Job} {p : Part} (t : ℕ) → Proper js p → 1 ≤ t → t ≤ p.time → Proper js (shortened t p)
shortened-proper t g some l = record { alive = g.alive; some = some; left = omega (arith, g.left); free = g.free; stays = g.stays; real = g.real }

pub parts-done : {js : List Job} {ps : List Part} (t : ℕ) → Replay js ps → Replay js (done_by t ps)
unfolding done_by
parts-done t over = over
parts-done {js} t (then {p = p} {ps = ps} g r) = go (leb p.time t) refl (parts-done (t - p.time) r)
  where
    under-way : (b : Bool) → eqb t 0 ≡ b → t < p.time → Replay js (elim b as (λ x. List Part) [ true ↦ [] | false ↦ shortened t p ∷ [] ])
    under-way true e l = over
    under-way false e l = then (shortened-proper t g (omega (arith, eqb-false t 0 e)) (omega arith)) over

    go : (b : Bool) → leb p.time t ≡ b → Replay (after js p) (done_by (t - p.time) ps) → Replay js (elim b as (λ x. List Part) [ true ↦ p ∷ done_by (t - p.time) ps | false ↦ elim (eqb t 0) [ true ↦ [] | false ↦ shortened t p ∷ [] ] ])
    go true e d = then g d
    go false e d = under-way (eqb t 0) refl (leb-false p.time t e)

-- ONCE IN ROLLBACK: where a job is so before part k, each later part of it is in rollback
only_at : {i : ℕ} (ps : List Part) (l : ℕ) → OnlyRollback i ps → l < length ps → (part_at ps l).job ≡ i → (part_at ps l).rolling ≡ true
only_at [] l o h e = absurd (not-suc-le-zero h)
only_at (p ∷ ps) zero o h e = o.0 e
only_at (p ∷ ps) (suc l) o h e = only_at ps l o.1 (le_of_suc-le-suc h) e

pub rolling-stays : {js : List Job} {ps : List Part} (k l : ℕ) → Sound js → Replay js ps → k ≤ l → l < length ps → (job_at (after_all js (take k ps)) (part_at ps l).job).rolling ≡ true → (part_at ps l).rolling ≡ true
unfolding after_all
rolling-stays {ps = ps} zero l s r kl h e = only_at ps l (rolling-kept (part_at ps l).job s r e) h refl
rolling-stays (suc k) zero s r kl h e = absurd (not-suc-le-zero kl)
rolling-stays (suc k) (suc l) s over kl h e = absurd (not-suc-le-zero h)
rolling-stays {js = js} (suc k) (suc l) s (then {p = p} g r) kl h e = rolling-stays {js = after js p} k l (sound-after s g) r (le_of_suc-le-suc kl) (le_of_suc-le-suc h) e

pub once-at : (ps : List Part) (k l : ℕ) → OnceRollback ps → k < l → l < length ps → (part_at ps l).job ≡ (part_at ps k).job → (part_at ps k).rolling ≡ true → (part_at ps l).rolling ≡ true
once-at [] k l o kl h q e = absurd (not-suc-le-zero h)
once-at (p ∷ ps) k zero o kl h q e = absurd (not-suc-le-zero kl)
once-at (p ∷ ps) zero (suc l) o kl h q e = only_at ps l (o.0 e) (le_of_suc-le-suc h) q
once-at (p ∷ ps) (suc k) (suc l) o kl h q e = once-at ps k l o.1 (le_of_suc-le-suc kl) (le_of_suc-le-suc h) q e
