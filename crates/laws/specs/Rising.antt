-- A list whose entries rise by a key.
use Rattle.std.specs.Prelude.{ℕ, ◌+◌, ◌<◌, ◌≡◌, List, [], ◌∷◌, ◌++◌, length, get_or}
use Rattle.std.proofs.Common.{arith, ap, inl, inr, length-append, get_or-append-add}
use Rattle.std.proofs.Math.ListN.{get_or-append}
use Rattle.laws.specs.Search.{lt-or-le}

pub record Rising (key : ℕ → ℕ) (xs : List ℕ) : Type 0 where
  pub rises : (a b : ℕ) → a < b → b < length xs → key (get_or xs a 0) < key (get_or xs b 0)

pub rising-append : {key : ℕ → ℕ} {xs : List ℕ} (x : ℕ) → Rising key xs → ((k : ℕ) → k < length xs → key (get_or xs k 0) < key x) → Rising key (xs ++ x ∷ [])
rising-append {key} {xs} x r h = record { rises = rises }
  where
    front : (k : ℕ) → k < length xs → key (get_or (xs ++ x ∷ []) k 0) ≡ key (get_or xs k 0)
    front k l = ap key (get_or-append xs (x ∷ []) 0 k l)

    rises : (a b : ℕ) → a < b → b < length (xs ++ x ∷ []) → key (get_or (xs ++ x ∷ []) a 0) < key (get_or (xs ++ x ∷ []) b 0)
    rises a b l m = elim (lt-or-le b (length xs)) [
      | inl k ↦ omega (arith, front a (omega arith), front b k, r.rises a b l k)
      | inr k ↦
          let n : length (xs ++ x ∷ []) ≡ length xs + 1 = length-append xs (x ∷ []) in
          let e : b ≡ length xs + 0 = omega arith in
          omega (arith, front a (omega arith), h a (omega arith), ap (λ (z : ℕ). key (get_or (xs ++ x ∷ []) z 0)) e, ap key (get_or-append-add xs (x ∷ []) 0 0))
    ]
