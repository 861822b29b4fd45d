-- The holders by resource, kept while the held lists are read: who stands there is who named it, and 255 where nobody did.
use Rattle.std.specs.Prelude.{ℕ, suc, ◌<◌, ◌≤◌, ◌≡◌, refl, ◌⊎◌, List, length, get_or, set, replicate}
use Rattle.std.proofs.Common.{not-suc-le-zero, arith, sym, ◌∙◌, inl, inr, length-set, get_or-set_same, get_or-set_other}
use Rattle.std.proofs.Math.Decide.{ℕ_discrete}
use Rattle.std.proofs.lemmas.List.{get_or-replicate}
use Rattle.std.proofs.Math.ListN.{get_or-eq_default}
use Rattle.laws.specs.Search.{lt-or-le}

-- entry k of job j stands before entry m of job i
pub data Before (count : ℕ → ℕ) (i m j k : ℕ) : Type 0 where
  earlier : j < i → k < count j → Before count i m j k
  beside : j ≡ i → k < m → Before count i m j k

-- an entry before entry m of job i names r
pub record Named (count : ℕ → ℕ) (name : ℕ → ℕ → ℕ) (i m r : ℕ) : Type 0 where
  pub job : ℕ
  pub entry : ℕ
  pub before : Before count i m job entry
  pub is : name job entry ≡ r

-- the holders when the entries before entry m of job i are read
pub record Agree (count : ℕ → ℕ) (name : ℕ → ℕ → ℕ) (i m : ℕ) (holders : List ℕ) : Type 0 where
  pub size : length holders ≡ 32
  pub holder : (j k : ℕ) → Before count i m j k → get_or holders (name j k) 255 ≡ j
  pub only : (r : ℕ) → (get_or holders r 255 ≡ 255) ⊎ Named count name i m r

module _ (count : ℕ → ℕ) (name : ℕ → ℕ → ℕ) where
  pub agree-none : Agree count name 0 0 (replicate 32 255)
  agree-none = record {
    size = refl;
    holder = nobody;
    only = λ r. inl (free r);
  }
    where
      nobody : (j k : ℕ) → Before count 0 0 j k → get_or (replicate 32 255) (name j k) 255 ≡ j
      nobody j k (earlier h l) = absurd (not-suc-le-zero h)
      nobody j k (beside e h) = absurd (not-suc-le-zero h)

      free : (r : ℕ) → ◌≡◌ {A = ℕ} (get_or (replicate 32 255) r 255) 255
      free r = elim (lt-or-le r 32) [
        | inl h ↦ get_or-replicate 32 r 255 255 h
        | inr h ↦ get_or-eq_default (replicate 32 255) 255 h
      ]

  module _ (i m : ℕ) where
    -- of the entries before the next one, the last is entry m itself
    last-or-before : (j k : ℕ) → Before count i (suc m) j k → ((j ≡ i) × (k ≡ m)) ⊎ Before count i m j k
    last-or-before j k (earlier h l) = inr (earlier h l)
    last-or-before j k (beside e h) = elim (ℕ_discrete k m) [ yes z ↦ inl (e, z) | no ne ↦ inr (beside e (omega arith)) ]

    still_before : (j k : ℕ) → Before count i m j k → Before count i (suc m) j k
    still_before j k (earlier h l) = earlier h l
    still_before j k (beside e h) = beside e (omega arith)

    job-before : (j k : ℕ) → Before count i m j k → j ≤ i
    job-before j k (earlier h l) = omega arith
    job-before j k (beside e h) = omega arith

    -- a resource is free exactly when no entry before names it
    pub free-once : (holders : List ℕ) → Agree count name i m holders → i < 32 → get_or holders (name i m) 255 ≡ 255 → (j k : ℕ) → Before count i m j k → name j k ≡ name i m → ⊥
    free-once holders a few free j k b e =
        let z : get_or holders (name j k) 255 ≡ 255 = rw e free in
        omega (arith, a.holder j k b, job-before j k b)

    pub once-free : (holders : List ℕ) → Agree count name i m holders → ((j k : ℕ) → Before count i m j k → name j k ≡ name i m → ⊥) → get_or holders (name i m) 255 ≡ 255
    once-free holders a once = elim (a.only (name i m)) [
      | inl z ↦ z
      | inr n ↦ absurd (once n.job n.entry n.before n.is)
    ]

    pub agree-entry : (holders : List ℕ) → Agree count name i m holders → i < 32 → name i m < 32 → get_or holders (name i m) 255 ≡ 255 → Agree count name i (suc m) (set holders (name i m) i)
    agree-entry holders a few low free = record {
      size = length-set holders (name i m) i ∙ a.size;
      holder = λ j k b. holds j k (last-or-before j k b);
      only = names;
    }
      where
        in-room : name i m < length holders
        in-room = omega (arith, a.size)

        new : get_or (set holders (name i m) i) (name i m) 255 ≡ i
        new = get_or-set_same holders (name i m) i 255 in-room

        holds : (j k : ℕ) → ((j ≡ i) × (k ≡ m)) ⊎ Before count i m j k → get_or (set holders (name i m) i) (name j k) 255 ≡ j
        holds j k (inl e) = rw (e.0, e.1) new
        holds j k (inr b) =
            get_or-set_other holders (name i m) (name j k) i 255 (free-once holders a few free j k b) ∙ a.holder j k b

        names : (r : ℕ) → (get_or (set holders (name i m) i) r 255 ≡ 255) ⊎ Named count name i (suc m) r
        names r = elim (ℕ_discrete r (name i m)) [
          | yes e ↦ inr (record { job = i; entry = m; before = beside refl (omega arith); is = sym e })
          | no ne ↦ elim (a.only r) [
            | inl z ↦ inl (get_or-set_other holders (name i m) r i 255 ne ∙ z)
            | inr n ↦ inr (record { job = n.job; entry = n.entry; before = still_before n.job n.entry n.before; is = n.is })
          ]
        ]

  -- after job i's last entry comes the next job's first
  pub agree-job : (i : ℕ) (holders : List ℕ) → Agree count name i (count i) holders → Agree count name (suc i) 0 holders
  agree-job i holders a = record {
    size = a.size;
    holder = λ j k b. a.holder j k (back j k b);
    only = λ r. elim (a.only r) [
      | inl z ↦ inl z
      | inr n ↦ inr (record { job = n.job; entry = n.entry; before = forth n.job n.entry n.before; is = n.is })
    ];
  }
    where
      back : (j k : ℕ) → Before count (suc i) 0 j k → Before count i (count i) j k
      back j k (earlier h l) = elim (ℕ_discrete j i) [ yes e ↦ beside e (rw e at l) | no ne ↦ earlier (omega arith) l ]
      back j k (beside e h) = absurd (not-suc-le-zero h)

      forth : (j k : ℕ) → Before count i (count i) j k → Before count (suc i) 0 j k
      forth j k (earlier h l) = earlier (omega arith) l
      forth j k (beside e h) = earlier (omega arith) (rw e h)
