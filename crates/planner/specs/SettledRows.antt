-- The rows of the victims, written one after the other.
use Rattle.std.specs.Prelude.{◌≡◌, refl, ℕ, ◌+◌, ◌<◌, ◌≤◌, get_or, drop}
use Rattle.std.proofs.Common.{sym, ap, ◌∙◌, add-one, arith}
use Rattle.std.proofs.Math.Logic.{inl, inr}
use mathlib.Core.List.{List, [], ◌∷◌}
use Rattle.std.proofs.Math.Decide.{ℕ_discrete}
use Rattle.std.proofs.Math.ListN.{length}
use Rattle.std.proofs.Math.Seq.{drop-length}
use Rattle.laws.specs.Among.{Among, among-or-not}
use Rattle.job.specs.declared.Held.{Held}
use Rattle.job.specs.declared.Job.{Job}
use Rattle.job.specs.Held.{free}
use Rattle.job.specs.Job.{held_at}
use Rattle.gus.specs.State.{job_at}
use Rattle.gus.specs.Waits.{nobody, waits_for}
use Rattle.gus.specs.Victims.{sent_back, settled}
use Rattle.invariants.specs.Sound.{Sound}
use Rattle.invariants.specs.Settled.{settled-size, settled-other, settled_back, settled-keeps, waits-victim, waits-other}
use Rattle.planner.specs.declared.Victims.{Victims}
use Rattle.planner.specs.Settling.{victims_in, Handed, victims-long, victims-next}
use Rattle.planner.specs.Places.{Place}
use Rattle.planner.specs.Rows.{asked, Rows}
use Rattle.planner.specs.Unheld.{held-nobody}
use Rattle.planner.specs.Putting.{sent_row, turns, sent_rows}
use Rattle.planner.specs.Row.{Row, RowOf, row_same, sent-row, sent-own, row_of, rows_of}

-- row i, after each of these was sent back
module _ (j : Job) {i : ℕ} {place : Place} (l : i < 32) where
  -- once it is sent back, it stays so
  still_back : (is : List ℕ) {sheet : List ℕ} → Row (sent_back j) nobody 0 0 place i sheet → Row (sent_back j) nobody 0 0 place i (sent_rows is sheet)
  unfolding turns
  still_back [] r = r
  still_back (a ∷ is) {sheet} r = still_back is (elim (ℕ_discrete i a) [ yes e ↦ rw (← e) (sent-own l r) | no ne ↦ sent-row a ne r ])

  victim-row : (is : List ℕ) {w h u : ℕ} {sheet : List ℕ} → Among i is → Row j w h u place i sheet → Row (sent_back j) nobody 0 0 place i (sent_rows is sheet)
  unfolding turns
  victim-row [] none r = absurd none
  victim-row (a ∷ is) among r = elim (ℕ_discrete i a) [
    | yes e ↦ still_back is (rw (← e) (sent-own l r))
    | no ne ↦ elim among [ inl e ↦ absurd (ne e) | inr rest ↦ victim-row is rest (sent-row a ne r) ]
  ]

  other_row : (is : List ℕ) {w h u : ℕ} {sheet : List ℕ} → (Among i is → ⊥) → Row j w h u place i sheet → Row j w h u place i (sent_rows is sheet)
  unfolding turns
  other_row [] none r = r
  other_row (a ∷ is) none r = other_row is (λ x. none (inr x)) (sent-row a (λ e. none (inl e)) r)

-- THE SHEET AFTER THE VICTIMS is the rows of the settled jobs
pub rows_settled : {js : List Job} {places : ℕ → Place} {sheet : List ℕ} → Sound js → (is : List ℕ) → Rows js places sheet → Rows (settled js is) places (sent_rows is sheet)
rows_settled {js} {places} {sheet} s is rows = rows_of (λ i l. elim (among-or-not i is) [ inl a ↦ victim i l a | inr a ↦ other i l a ])
  where
    victim : (i : ℕ) → i < 32 → Among i is → RowOf (settled js is) places i (sent_rows is sheet)
    victim i l a =
        let q : waits_for (settled js is) i ≡ nobody = waits-victim s is i l a in
        let held : held_at (job_at (settled js is) (waits_for (settled js is) i)) (asked (settled js is) i) ≡ free =
        ap (λ (x : ℕ). held_at (job_at (settled js is) x) (asked (settled js is) i)) q ∙ held-nobody (settled js is) (settled-size js is ∙ s.size) (asked (settled js is) i) in
        row_same (victim-row (job_at js i) l is a (row_of rows i l)) (sym (settled_back js is i (omega (arith, s.size)) a)) (sym q) (ap (λ (x : Held). x.hold) (sym held)) (ap (λ (x : Held). x.rollback) (sym held))

    other : (i : ℕ) → i < 32 → (Among i is → ⊥) → RowOf (settled js is) places i (sent_rows is sheet)
    other i l a =
        let same : job_at (settled js is) i ≡ job_at js i = settled-other js is i a in
        let q : waits_for (settled js is) i ≡ waits_for js i = waits-other s is i a in
        let held : held_at (job_at (settled js is) (waits_for (settled js is) i)) (asked (settled js is) i) ≡ held_at (job_at js (waits_for js i)) (asked js i) =
        ap (λ (x : ℕ). held_at (job_at (settled js is) x) (asked (settled js is) i)) q
        ∙ ap (λ (j : Job). held_at (job_at (settled js is) (waits_for js i)) j.request.resource) same
        ∙ settled-keeps (λ j. held_at j (asked js i)) (λ j. refl) js is (waits_for js i) in
        row_same (other_row (job_at js i) l is a (row_of rows i l)) (sym same) (sym q) (ap (λ (x : Held). x.hold) (sym held)) (ap (λ (x : Held). x.rollback) (sym held))

-- The loop's whole invariant: what is left of the victims leads to where all of them lead.
pub record Sending (v : Victims) (sheet₀ sheet : List ℕ) (k : ℕ) : Type 0 where
  pub within : k ≤ v.count
  pub sent : sent_rows (drop k (victims_in v)) sheet ≡ sent_rows (victims_in v) sheet₀

module _ {v : Victims} {sheet₀ : List ℕ} (h : Handed v) where
  pub sending-begin : Sending v sheet₀ sheet₀ 0
  sending-begin = record { within = omega arith; sent = refl }

  module _ {sheet : List ℕ} {k : ℕ} (s : Sending v sheet₀ sheet k) where
    pub sending-next : {sheet' : List ℕ} → k < v.count → sheet' ≡ sent_row (get_or v.list k 0) sheet → Sending v sheet₀ sheet' (k + 1)
    unfolding turns
    sending-next l e = record { within = omega arith; sent = rw (add-one, e) (rw (victims-next h k l) at s.sent) }

    pub sending-ended : v.count ≤ k → sheet ≡ sent_rows (victims_in v) sheet₀
    unfolding turns
    sending-ended l =
        let e : k ≡ length (victims_in v) = omega (arith, victims-long h, s.within) in
        rw (e, drop-length (victims_in v)) at s.sent
