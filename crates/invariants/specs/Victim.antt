-- The victim of a circle: a member, not marked never, of least loss, the lowest among equals; there is one exactly if some member is not never.
use Rattle.std.specs.Prelude.{ℕ, ◌<◌, ◌≡◌, ◌≢◌, ◌⊎◌, eqb}
use Rattle.std.proofs.Math.Path.{refl}
use Rattle.std.proofs.Common.{inl, inr, eqb-true}
use Rattle.std.proofs.Math.Bool.{Bool, true, false}
use Rattle.std.proofs.lemmas.Bool.{false≢true, eqb-false}
use Rattle.job.specs.Times.{never}
use Rattle.gus.specs.declared.Course.{Course}
use Rattle.gus.specs.declared.Best.{Best}
use Rattle.gus.specs.View.{View}
use Rattle.gus.specs.Course.{denser}
use Rattle.gus.specs.Victims.{circle_of, loss_of, lesser, offer, victim_of}
use Rattle.invariants.specs.Denser.{not_both, denser-under}
use Rattle.invariants.specs.Winner.{taken, Order, Timed, Wins, Won, no_one, some_one, won}

-- who can be the victim of the circle whose lowest member is `low`
pub record Candidate (v : View) (low i : ℕ) : Type 0 where
  pub member : circle_of v.waits i ≡ low
  pub real : v.rollback i ≢ never

-- whether a is the lesser loss of the two
abbrev pub loses_less : Course → Course → Bool
loses_less a b = denser b a

less-order : Order loses_less
less-order = record { not_both = λ a b. not_both b a; above = denser-under }

module _ (v : View) (t low : ℕ) where
  -- THE VICTIM is the winner by least loss of the candidates
  chosen : Won loses_less (Candidate v low) (loss_of v t) 32 (victim_of v t low)
  unfolding victim_of offer lesser
  chosen = won loses_less (Candidate v low) (loss_of v t) less-order (offer v t low) each 32
    where
      each : (n : ℕ) (b : Best) → (Candidate v low n × (offer v t low n b ≡ taken loses_less n (loss_of v t n) b)) ⊎ ((Candidate v low n → ⊥) × (offer v t low n b ≡ b))
      each n b = go (eqb (circle_of v.waits n) low) refl (eqb (v.rollback n) never) refl
        where
          offered : Bool → Bool → Best
          offered x y = elim x [ true ↦ elim y as (λ z. Best) [ true ↦ b | false ↦ lesser n (loss_of v t n) b ] | false ↦ b ]

          go : (x : Bool) → eqb (circle_of v.waits n) low ≡ x → (y : Bool) → eqb (v.rollback n) never ≡ y → (Candidate v low n × (offered x y ≡ taken loses_less n (loss_of v t n) b)) ⊎ ((Candidate v low n → ⊥) × (offered x y ≡ b))
          go true p false q = inl (record { member = eqb-true (circle_of v.waits n) low p; real = eqb-false (v.rollback n) never q }, refl)
          go true p true q = inr (λ m. m.real (eqb-true (v.rollback n) never q), refl)
          go false p y q = inr (λ m. eqb-false (circle_of v.waits n) low p m.member, refl)

  -- it is a candidate,
  pub victim-is : (victim_of v t low).some ≡ true → ((victim_of v t low).last < 32) × Candidate v low (victim_of v t low).last
  victim-is e = go (victim_of v t low) chosen e
    where
      go : (b : Best) → Won loses_less (Candidate v low) (loss_of v t) 32 b → b.some ≡ true → (b.last < 32) × Candidate v low b.last
      go b (no_one h) q = absurd (false≢true q)
      go b (some_one i l m c x) q = (l, m)

  -- there is one where there is a candidate,
  pub victim-some : (k : ℕ) → k < 32 → Candidate v low k → (victim_of v t low).some ≡ true
  victim-some k l m = go (victim_of v t low) chosen
    where
      go : (b : Best) → Won loses_less (Candidate v low) (loss_of v t) 32 b → b.some ≡ true
      go b (no_one h) = absurd (h k l m)
      go b (some_one i h n c x) = refl

  -- and no candidate loses less, and each before it loses more
  pub victim-least : Timed loses_less (Candidate v low) (loss_of v t) → (victim_of v t low).some ≡ true → Wins loses_less (Candidate v low) (loss_of v t) 32 (victim_of v t low).last
  victim-least times e = go (victim_of v t low) chosen e
    where
      go : (b : Best) → Won loses_less (Candidate v low) (loss_of v t) 32 b → b.some ≡ true → Wins loses_less (Candidate v low) (loss_of v t) 32 b.last
      go b (no_one h) q = absurd (false≢true q)
      go b (some_one i l m c x) q = x times
