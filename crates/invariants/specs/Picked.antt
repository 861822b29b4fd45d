-- The best group: of the candidates none is denser, and each before it is less dense. Where it is not worth more than zero, none is.
use Rattle.std.specs.Prelude.{ℕ, ◌≤◌, ◌≡◌, ◌⊎◌, Bool, true, false, List}
use Rattle.std.proofs.Common.{arith, sym, ◌∙◌, inl, inr}
use Rattle.std.proofs.Math.Path.{refl}
use Rattle.std.proofs.lemmas.Bool.{false≢true}
use Rattle.job.specs.declared.Job.{Job}
use Rattle.job.specs.Job.{is_left}
use Rattle.gus.specs.declared.Part.{Part}
use Rattle.gus.specs.declared.Course.{Course}
use Rattle.gus.specs.declared.Best.{Best}
use Rattle.gus.specs.State.{job_at}
use Rattle.gus.specs.View.{Pay, view_of}
use Rattle.gus.specs.Course.{denser}
use Rattle.gus.specs.Choice.{Way}
use Rattle.gus.specs.Group.{group_of}
use Rattle.gus.specs.Round.{better, offered, consider, best_of}
use Rattle.invariants.specs.Sound.{Sound, Member, left-member, member-left}
use Rattle.invariants.specs.Runs.{Runs, last, next}
use Rattle.invariants.specs.Replay.{lasts}
use Rattle.invariants.specs.Denser.{not_both, denser-over}
use Rattle.invariants.specs.Winner.{taken, Order, Won, won}

pub denser-order : Order denser
denser-order = record { not_both = not_both; above = denser-over }

pub runs-some : {js₀ js : List Job} {ps : List Part} → Runs js₀ js ps → 1 ≤ lasts ps
unfolding lasts
runs-some (last g e l) = omega (arith, g.some)
runs-some (next g e u r) = omega (arith, g.some)

abbrev pub course_at : Way → Pay → List Job → ℕ → ℕ → Course
course_at way pay js t i = (group_of way (view_of pay js) t i).course

-- who may win: a job that is left and whose group has no finish outside its curve (R-7)
pub record Candidate (way : Way) (pay : Pay) (js : List Job) (t i : ℕ) : Type 0 where
  pub member : Member js i
  pub inside : (course_at way pay js t i).inside ≡ true

-- THE BEST is the winner by density of the candidates
pub picked : (way : Way) (pay : Pay) {js : List Job} (t : ℕ) → Sound js → Won denser (Candidate way pay js t) (course_at way pay js t) 32 (best_of way (view_of pay js) t)
unfolding best_of consider offered better
picked way pay {js} t s = won denser (Candidate way pay js t) (course_at way pay js t) denser-order (consider way (view_of pay js) t) each 32
  where
    each : (n : ℕ) (b : Best) → (Candidate way pay js t n × (consider way (view_of pay js) t n b ≡ taken denser n (course_at way pay js t n) b)) ⊎ ((Candidate way pay js t n → ⊥) × (consider way (view_of pay js) t n b ≡ b))
    each n b = go (is_left (job_at js n)) refl (course_at way pay js t n).inside refl
      where
        taking : Bool → Bool → Best
        taking x y = elim x as (λ z. Best) [ true ↦ elim y as (λ z. Best) [ true ↦ better n (course_at way pay js t n) b | false ↦ b ] | false ↦ b ]

        go : (x : Bool) → is_left (job_at js n) ≡ x → (y : Bool) → (course_at way pay js t n).inside ≡ y → (Candidate way pay js t n × (taking x y ≡ taken denser n (course_at way pay js t n) b)) ⊎ ((Candidate way pay js t n → ⊥) × (taking x y ≡ b))
        go true e true q = inl (record { member = left-member s n e; inside = q }, refl)
        go true e false q = inr (λ m. false≢true (sym q ∙ m.inside), refl)
        go false e y q = inr (λ m. false≢true (sym e ∙ member-left m.member), refl)
