-- A loop that goes over an array in place: turn i replaces the value at i by what f makes of it and of i.
use Rattle.std.specs.Prelude.{ℕ, zero, suc, ◌+◌, ◌<◌, ◌≤◌, ◌≡◌, refl, List, [], ◌∷◌, map, length, get_or, set}
use Rattle.std.proofs.Common.{not-suc-le-zero, le_of_suc-le-suc, add-one, arith, sym, ap, ◌∙◌}

module _ {A : Type 0} where
  -- every value replaced
  abbrev pub map_ix : (ℕ → A → A) → List A → List A
  map_ix f [] = []
  map_ix f (x ∷ l) = f 0 x ∷ map_ix (λ k. f (suc k)) l

  -- only the first n replaced: what the array holds after n turns
  abbrev pub done : (ℕ → A → A) → ℕ → List A → List A
  done f zero l = l
  done f (suc n) [] = []
  done f (suc n) (x ∷ l) = f 0 x ∷ done (λ k. f (suc k)) n l

  -- One turn on the array as it stands. A place behind the front is stepped over together with f's first index, so that
  -- the claim for the tail is the claim itself at the shifted f.
  advance : (f : ℕ → A → A) (l : List A) (i : ℕ) (d : A) → i < length l → set (done f i l) i (f i (get_or (done f i l) i d)) ≡ done f (suc i) l
  advance f [] i d h = absurd (not-suc-le-zero h)
  advance f (x ∷ l) zero d h = refl
  advance f (x ∷ l) (suc i) d h = ap {B = List A} (λ t. f 0 x ∷ t) (advance (λ k. f (suc k)) l i d (le_of_suc-le-suc h))

  -- The same as a loop's body meets it: the array and the new value are known by equations only.
  pub turn : (f : ℕ → A → A) (l a : List A) (i : ℕ) (d r : A) → i < length l → a ≡ done f i l → r ≡ f i (get_or a i d) → set a i r ≡ done f (i + 1) l
  turn f l a i d r h e q = rw (q, e, add-one) (advance f l i d h)

  -- Turns past the end change nothing, so any number of them that is enough will do.
  pub whole : (f : ℕ → A → A) (n : ℕ) (l : List A) → length l ≤ n → done f n l ≡ map_ix f l
  whole f zero [] h = refl
  whole f zero (x ∷ l) h = absurd (not-suc-le-zero h)
  whole f (suc n) [] h = refl
  whole f (suc n) (x ∷ l) h = ap {B = List A} (λ t. f 0 x ∷ t) (whole (λ k. f (suc k)) n l (le_of_suc-le-suc h))

  -- So will any number of them, where turns from there on leave each value as it is.
  pub whole-idle : (f : ℕ → A → A) (n : ℕ) (l : List A) (d : A) → ((i : ℕ) → n ≤ i → i < length l → f i (get_or l i d) ≡ get_or l i d) → done f n l ≡ map_ix f l
  whole-idle f zero [] d idle = refl
  whole-idle f zero (x ∷ l) d idle = λ k. sym (idle 0 (omega arith) (omega arith)) k ∷ whole-idle (λ k. f (suc k)) zero l d (λ i p q. idle (suc i) (omega arith) (omega arith)) k
  whole-idle f (suc n) [] d idle = refl
  whole-idle f (suc n) (x ∷ l) d idle = ap {B = List A} (λ t. f 0 x ∷ t) (whole-idle (λ k. f (suc k)) n l d (λ i p q. idle (suc i) (omega arith) (omega arith)))

  pub length-map_ix : (f : ℕ → A → A) (l : List A) → length (map_ix f l) ≡ length l
  length-map_ix f [] = refl
  length-map_ix f (x ∷ l) = ap suc (length-map_ix (λ k. f (suc k)) l)

  pub at-map_ix : (f : ℕ → A → A) (l : List A) (i : ℕ) (d : A) → i < length l → get_or (map_ix f l) i d ≡ f i (get_or l i d)
  at-map_ix f [] i d h = absurd (not-suc-le-zero h)
  at-map_ix f (x ∷ l) zero d h = refl
  at-map_ix f (x ∷ l) (suc i) d h = at-map_ix (λ k. f (suc k)) l i d (le_of_suc-le-suc h)

  -- an f that does not look at the index
  map_ix-plain : (f : A → A) (l : List A) → map_ix (λ k. f) l ≡ map f l
  map_ix-plain f [] = refl
  map_ix-plain f (x ∷ l) = ap {B = List A} (λ t. f x ∷ t) (map_ix-plain f l)

-- The invariant of such a loop, on an array of n places that held l at the start and holds a before turn i.
pub record Doing {A : Type 0} (f : ℕ → A → A) (n : ℕ) (l a : List A) (i : ℕ) : Type 0 where
  pub within : i ≤ n
  pub size : length l ≡ n
  pub so_far : a ≡ done f i l

module _ {A : Type 0} {f : ℕ → A → A} {n : ℕ} {l : List A} where
  pub begin : length l ≡ n → Doing f n l l 0
  begin e = record { within = omega arith; size = e; so_far = refl }

  pub next : {a : List A} {i : ℕ} {r : A} (d : A) → Doing f n l a i → i < n → r ≡ f i (get_or a i d) → Doing f n l (set a i r) (i + 1)
  next {a} {i} {r} d p h q = record { within = omega arith; size = p.size; so_far = turn f l a i d r (omega arith) p.so_far q }

  pub ended-ix : {a : List A} {i : ℕ} → Doing f n l a i → n ≤ i → a ≡ map_ix f l
  ended-ix {i = i} p h = p.so_far ∙ whole f i l (omega arith)

  pub ended-idle : {a : List A} {i : ℕ} (d : A) → Doing f n l a i → ((k : ℕ) → i ≤ k → k < n → f k (get_or l k d) ≡ get_or l k d) → a ≡ map_ix f l
  ended-idle {i = i} d p idle = p.so_far ∙ whole-idle f i l d (λ k h q. idle k h (omega arith))

pub ended : {A : Type 0} {f : A → A} {n : ℕ} {l a : List A} {i : ℕ} → Doing (λ k. f) n l a i → n ≤ i → a ≡ map f l
ended {f = f} {l = l} p h = ended-ix p h ∙ map_ix-plain f l
