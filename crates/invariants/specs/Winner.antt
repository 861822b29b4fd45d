-- The winner of a scan: no candidate beats it, and it beats each candidate before it.
use Prim.Native.Nat.{ℕ, zero, suc, ◌<◌}
use Rattle.std.proofs.Math.Nat.{not-suc-le-zero}
use Rattle.std.proofs.Math.Decide.{ℕ_discrete}
use Rattle.std.proofs.Common.{arith}
use Rattle.std.specs.Prelude.{◌≡◌, refl, ◌⊎◌, Bool, true, false}
use Rattle.std.proofs.Math.Logic.{inl, inr}
use Rattle.laws.specs.Count.{upto}
use Rattle.gus.specs.declared.Course.{Course}
use Rattle.gus.specs.declared.Best.{Best}
use Rattle.gus.specs.Round.{no_best}

abbrev pub found : ℕ → Course → Best
found i c = record { some = true; last = i; course = c }

-- job i against the best of those before it
abbrev pub taken : (Course → Course → Bool) → ℕ → Course → Best → Best
taken beats i c b = elim b.some [ true ↦ elim (beats c b.course) [ true ↦ found i c | false ↦ b ] | false ↦ found i c ]

-- what a scan asks of its order
pub record Order (beats : Course → Course → Bool) : Type 0 where
  pub not_both : (a b : Course) → beats a b ≡ true → beats b a ≡ false
  pub above : (k b n : Course) → 0 < k.time → beats k b ≡ false → beats n b ≡ true → beats n k ≡ true

-- over any candidates, each with its course
module _ (beats : Course → Course → Bool) (Candidate : ℕ → Type 0) (course : ℕ → Course) where
  pub record Timed : Type 0 where
    pub some : (i : ℕ) → Candidate i → 0 < (course i).time

  -- i among those below n
  pub record Wins (n i : ℕ) : Type 0 where
    pub unbeaten : (k : ℕ) → k < n → Candidate k → beats (course k) (course i) ≡ false
    pub first : (k : ℕ) → k < i → Candidate k → beats (course i) (course k) ≡ true

  pub data Won : ℕ → Best → Type 0 where
    no_one : {n : ℕ} → ((i : ℕ) → i < n → Candidate i → ⊥) → Won n no_best
    some_one : {n : ℕ} {c : Course} (i : ℕ) → i < n → Candidate i → c ≡ course i → (Timed → Wins n i) → Won n (found i c)

  module _ (o : Order beats) where
    unbeaten-self : (i : ℕ) → beats (course i) (course i) ≡ false
    unbeaten-self i = go (beats (course i) (course i)) refl
      where
        go : (b : Bool) → beats (course i) (course i) ≡ b → beats (course i) (course i) ≡ false
        go true e = o.not_both (course i) (course i) e
        go false e = e

    -- what holds of the candidates below n, and of n, holds of those below n + 1
    and_last : {P : ℕ → Type 0} (n : ℕ) → ((k : ℕ) → k < n → Candidate k → P k) → (Candidate n → P n) → (k : ℕ) → k < suc n → Candidate k → P k
    and_last {P} n below here k h m = elim (ℕ_discrete k n) [ yes e ↦ rw e (here (rw e at m)) | no ne ↦ below k (omega arith) m ]

    -- n beats the best so far, and takes its place
    replaced : (n i : ℕ) → beats (course n) (course i) ≡ true → Timed → Wins n i → Wins (suc n) n
    replaced n i q times x =
        let more : (k : ℕ) → k < n → Candidate k → beats (course n) (course k) ≡ true = λ k l m. o.above (course k) (course i) (course n) (times.some k m) (x.unbeaten k l m) q in
        record {
          unbeaten = and_last {P = λ k. beats (course k) (course n) ≡ false} n (λ k l m. o.not_both (course n) (course k) (more k l m)) (λ m. unbeaten-self n);
          first = more;
        }

    kept : (n i : ℕ) → (Candidate n → beats (course n) (course i) ≡ false) → Wins n i → Wins (suc n) i
    kept n i q x = record { unbeaten = and_last {P = λ k. beats (course k) (course i) ≡ false} n x.unbeaten q; first = x.first }

    weighed : (n : ℕ) → Candidate n → (b : Best) → Won n b → Won (suc n) (taken beats n (course n) b)
    weighed n m b (no_one h) = some_one {n = suc n} n (omega arith) m refl (λ times. record {
      unbeaten = and_last {P = λ k. beats (course k) (course n) ≡ false} n (λ k l z. absurd (h k l z)) (λ z. unbeaten-self n);
      first = λ k l z. absurd (h k l z);
    })
    weighed n m b (some_one {c = c} i l mi e x) = go (beats (course n) c) refl
      where
        go : (d : Bool) → beats (course n) c ≡ d → Won (suc n) (elim d as (λ z. Best) [ true ↦ found n (course n) | false ↦ found i c ])
        go true q = some_one {n = suc n} n (omega arith) m refl (λ times. replaced n i (rw e at q) times (x times))
        go false q = some_one {n = suc n} i (omega arith) mi e (λ times. kept n i (λ z. rw e at q) (x times))

    passed : (n : ℕ) → (Candidate n → ⊥) → (b : Best) → Won n b → Won (suc n) b
    passed n none b (no_one h) = no_one (and_last {P = λ k. ⊥} n h none)
    passed n none b (some_one i l mi e x) = some_one {n = suc n} i (omega arith) mi e (λ times. kept n i (λ z. absurd (none z)) (x times))

    -- A SCAN in which each candidate is weighed and each other number is passed
    pub won : (step : ℕ → Best → Best) → ((n : ℕ) (b : Best) → (Candidate n × (step n b ≡ taken beats n (course n) b)) ⊎ ((Candidate n → ⊥) × (step n b ≡ b))) → (n : ℕ) → Won n (upto step n no_best)
    unfolding upto
    won step each zero = no_one (λ i h m. not-suc-le-zero h)
    won step each (suc n) = elim (each n (upto step n no_best)) [
      | inl x ↦ rw x.1 (weighed n x.0 (upto step n no_best) (won step each n))
      | inr x ↦ rw x.1 (passed n x.0 (upto step n no_best) (won step each n))
    ]
