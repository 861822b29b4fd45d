-- A request that the machine adds to a job's holds is the planner's grant: so a part of either mode keeps the two jobs in agreement.
use Rattle.std.specs.Prelude.{◌≡◌, refl, Bool, true, false, cond, ◌||◌, List, [], ◌∷◌, map, ℕ, ◌+◌, ◌<◌, ◌≤◌, eqb}
use Rattle.std.proofs.Math.Path.{sym, ap}
use Rattle.std.proofs.Common.{◌∙◌, inl, inr, arith}
use Rattle.std.proofs.Math.Decide.{ℕ_discrete}
use borrow.Author.Tests.{lt-ltb}
use Rattle.job.specs.declared.Request.{Request}
use Rattle.job.specs.declared.Job.{Job}
use Rattle.job.specs.Times.{never, plus, or_never, either-or-neither}
use Rattle.job.specs.Job.{hold_of, rollback_of, all_never, granted}
use Rattle.job.specs.Grant.{hold-granted-new, rollback-granted-new}
use Rattle.job.proofs.Grant.{hold-granted, rollback-granted}
use Rattle.job.specs.Fit.{Ask, Fit}
use Rattle.book.specs.declared.Entry.{Entry}
use Rattle.replay.specs.Machine.{MachineJob, longer, longer_hold, new_hold}
use Rattle.replay.specs.View.{lists, hold_on}
use Rattle.replay.specs.Lists.{Some, hold-here, hold-on, unlisted, lists-map, hold-map}
use Rattle.replay.specs.Same.{Same, same_lists}

-- longer holds have some time
pub longer-some : (m : MachineJob) (es : List Entry) → Some es → Some (map (longer_hold m) es)
longer-some m [] s = tt
longer-some m (e ∷ es) s = (s.0, go (eqb m.rollback never || eqb m.request.rollback never), longer-some m es s.2)
  where
    go : (b : Bool) → 0 < cond b never (e.rollback + m.request.rollback)
    go true = omega arith
    go false = omega (arith, s.1)

module _ {m : MachineJob} {j : Job} (s : Same m j) (f : Fit j) (l : j.request.resource < 32) (free : hold_of j j.request.resource ≡ 0) where
  pub ask : Ask j
  ask = f.asks l

  pub resource : m.request.resource ≡ j.request.resource
  resource = ap (λ (q : Request). q.resource) s.request

  -- "If either is never, all are never", and the sum of two that are not stays below never
  pub longer-is : (x : ℕ) → x ≤ j.rollback → longer m x ≡ or_never (all_never j) (plus x j.request.rollback)
  longer-is x h = rw (s.rollback, s.request) (elim (either-or-neither f.most ask.rollback_most) [
    | inl t ↦ rw t
    | inr t ↦ rw t.0 (omega (arith, ask.sum_below t.1 t.2))
  ])

  pub new_is : longer m 0 ≡ or_never (all_never j) j.request.rollback
  new_is = longer-is 0 (omega arith) ∙ ap (or_never (all_never j)) (omega (arith, ask.rollback_most))

  -- the new hold, and the others
  abbrev new : List Entry
  new = new_hold m ∷ map (longer_hold m) m.holds

  pub granted-hold : (r : ℕ) → (hold_on new r).hold ≡ hold_of (granted j) r
  granted-hold r = elim (ℕ_discrete r j.request.resource) [
    | yes e ↦ ap (λ (x : Entry). x.hold) (hold-here (new_hold m) (map (longer_hold m) m.holds) r (resource ∙ sym e)) ∙ ap (λ (q : Request). q.hold) s.request ∙ sym (hold-granted-new j l f.size e)
    | no ne ↦
        ap (λ (x : Entry). x.hold) (hold-on (new_hold m) (map (longer_hold m) m.holds) r (λ e. ne (sym e ∙ resource)))
        ∙ go (lists m.holds r) refl
        ∙ s.hold r
        ∙ sym (hold-granted j r ne)
  ]
    where
      go : (b : Bool) → lists m.holds r ≡ b → (hold_on (map (longer_hold m) m.holds) r).hold ≡ (hold_on m.holds r).hold
      go true y = ap (λ (x : Entry). x.hold) (hold-map (longer_hold m) (λ e. refl) m.holds r y)
      go false n = rw (unlisted (map (longer_hold m) m.holds) r (lists-map (longer_hold m) (λ e. refl) m.holds r ∙ n), unlisted m.holds r n)

  pub granted-undo : (r : ℕ) → 0 < hold_of (granted j) r → (hold_on new r).rollback ≡ rollback_of (granted j) r
  granted-undo r h = elim (ℕ_discrete r j.request.resource) [
    | yes e ↦ ap (λ (x : Entry). x.rollback) (hold-here (new_hold m) (map (longer_hold m) m.holds) r (resource ∙ sym e)) ∙ new_is ∙ sym (rollback-granted-new j l f.size e)
    | no ne ↦
        let k : 0 < hold_of j r = omega (arith, hold-granted j r ne) in
        ap (λ (x : Entry). x.rollback) (hold-on (new_hold m) (map (longer_hold m) m.holds) r (λ e. ne (sym e ∙ resource)))
        ∙ ap (λ (x : Entry). x.rollback) (hold-map (longer_hold m) (λ e. refl) m.holds r (same_lists s r ∙ lt-ltb 0 (hold_of j r) k))
        ∙ ap (longer m) (s.undo r k)
        ∙ longer-is (rollback_of j r) (f.rollbacks r)
        ∙ sym (rollback-granted j l r ne k)
  ]
