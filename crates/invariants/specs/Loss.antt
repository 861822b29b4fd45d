-- 01'S LOSS, WITH ITS LINE for a job in rollback: wherever a loss is asked for it is the loss without the line; so the line changes no victim and no knot.
use Rattle.std.specs.Prelude.{ℕ, ◌+◌, ◌≡◌, Bool, List, eqb, Some}
use Rattle.std.proofs.Math.Path.{refl, ap}
use Rattle.std.proofs.Common.{◌∙◌}
use Rattle.std.proofs.Math.Bool.{true, false, cond}
use Rattle.std.proofs.Math.IntN.{pos}
use Rattle.laws.specs.Circle.{OnCircle}
use Rattle.curve.specs.Worth.{amount}
use Rattle.job.specs.declared.Job.{Job}
use Rattle.job.specs.Times.{never}
use Rattle.gus.specs.declared.Course.{Course}
use Rattle.gus.specs.declared.Best.{Best}
use Rattle.gus.specs.Waits.{waits_for}
use Rattle.gus.specs.View.{Pay, View, view_of}
use Rattle.gus.specs.Victims.{circle_of, loss_of, lesser, offer, victims_of, knot_of}
use Rattle.invariants.specs.SameVictims.{AlikeForVictims, same-victims, same-knot}

-- "worth at now + run time left, divided by run time left; for a job in rollback, 0"
unfoldable pub loss_by_mode : View → ℕ → ℕ → Course
loss_by_mode v t i = cond (v.rolling i) (record { time = 1; gain = pos 0; inside = true }) (loss_of v t i)

-- the same jobs, seen so that their losses are these
abbrev pub view_by_mode : View → View
view_by_mode v = record {
  left = v.left;
  waits = v.waits;
  hold = v.hold;
  undo = v.undo;
  run = λ i. cond (v.rolling i) 1 (v.run i);
  rollback = v.rollback;
  rolling = v.rolling;
  worth = λ b i t. cond (v.rolling i) (Some (pos 0)) (v.worth b i t);
}

module _ (v : View) (t : ℕ) where
  pub loss-by-mode : (i : ℕ) → loss_of (view_by_mode v) t i ≡ loss_by_mode v t i
  unfolding loss_of loss_by_mode
  loss-by-mode i = go (v.rolling i)
    where
      go : (b : Bool) → record { time = cond b 1 (v.run i); gain = amount (cond b (Some (pos 0)) (v.worth false i (t + cond b 1 (v.run i)))); inside = true } ≡ cond b (record { time = 1; gain = pos 0; inside = true }) (loss_of v t i)
      go true = refl
      go false = refl

  -- so in that view a victim is sought as 01 says; a loss is asked for nowhere else
  pub offer-by-mode : (low i : ℕ) (b : Best)
      → offer (view_by_mode v) t low i b
      ≡ elim (eqb (circle_of v.waits i) low) [ true ↦ elim (eqb (v.rollback i) never) [ true ↦ b | false ↦ lesser i (loss_by_mode v t i) b ] | false ↦ b ]
  unfolding offer
  offer-by-mode low i b = ap (λ (c : Course). elim (eqb (circle_of v.waits i) low) [ true ↦ elim (eqb (v.rollback i) never) [ true ↦ b | false ↦ lesser i c b ] | false ↦ b ]) (loss-by-mode i)

-- the line says nothing of any member of a circle; a record, so that pay and js are read off its type
pub record LossesAgree (pay : Pay) (js : List Job) : Type 0 where
  pub same : (t i : ℕ) → OnCircle (waits_for js) 32 i → loss_by_mode (view_of pay js) t i ≡ loss_of (view_of pay js) t i

module _ {pay : Pay} {js : List Job} (agree : LossesAgree pay js) (t : ℕ) where
  alike : AlikeForVictims (view_by_mode (view_of pay js)) (view_of pay js) t
  alike = record { waits = refl; rollback = refl; loss = λ i c. loss-by-mode (view_of pay js) t i ∙ agree.same t i c }

  pub victims-by-mode : victims_of (view_by_mode (view_of pay js)) t ≡ victims_of (view_of pay js) t
  victims-by-mode = same-victims alike

  pub knot-by-mode : knot_of (view_by_mode (view_of pay js)) t ≡ knot_of (view_of pay js) t
  knot-by-mode = same-knot alike
