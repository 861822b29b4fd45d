-- A loop that counts i up to n and keeps b: b becomes f i b.
use Rattle.std.specs.Prelude.{ℕ, zero, suc, ◌+◌, ◌-◌, ◌<◌, ◌≤◌, ◌≡◌}
use Rattle.std.proofs.Math.Numerals.{add-one}
use Rattle.std.proofs.Common.{arith, ◌∙◌}
use Rattle.std.proofs.Math.Path.{refl, ap}

-- `upto f n b` is f 0, then f 1, .. then f (n - 1), from b.
module _ {B : Type 0} where
  unfoldable pub upto : (ℕ → B → B) → ℕ → B → B
  upto f zero b = b
  upto f (suc i) b = f i (upto f i b)

-- What holds before the first turn, and after each turn if it held before it, holds after every turn.
pub upto-each : {B : Type 0} (P : ℕ → B → Type 0) (f : ℕ → B → B) (n : ℕ) (b : B) → P 0 b → ((m : ℕ) → m < n → P m (upto f m b) → P (suc m) (f m (upto f m b))) → (m : ℕ) → m ≤ n → P m (upto f m b)
unfolding upto
upto-each P f n b first next zero h = first
upto-each P f n b first next (suc m) h = next m h (upto-each P f n b first next m (omega arith))

-- Turns that change nothing from the n-th on: any number of them that is at least n will do.
pub upto-idle : {B : Type 0} (f : ℕ → B → B) (n m : ℕ) (b : B) → n ≤ m → ((i : ℕ) (x : B) → n ≤ i → f i x ≡ x) → upto f m b ≡ upto f n b
unfolding upto
upto-idle {B} f n m b h idle = by (m - n) m (omega arith)
  where
    by : (k m : ℕ) → m ≡ n + k → upto f m b ≡ upto f n b
    by zero m e = let same : m ≡ n = omega arith in ap (λ (i : ℕ). upto f i b) same
    by (suc k) zero e = absurd (omega arith)
    by (suc k) (suc m) e = idle m (upto f m b) (omega arith) ∙ by k m (omega arith)

pub record Counting {B : Type 0} (f : ℕ → B → B) (n : ℕ) (b₀ b : B) (i : ℕ) : Type 0 where
  pub within : i ≤ n
  pub so_far : b ≡ upto f i b₀

module _ {B : Type 0} {f : ℕ → B → B} {n : ℕ} {b₀ : B} where
  pub count-begin : Counting f n b₀ b₀ 0
  unfolding upto
  count-begin = record { within = omega arith; so_far = refl }

  pub count_next : {b b' : B} {i : ℕ} → Counting f n b₀ b i → i < n → b' ≡ f i b → Counting f n b₀ b' (i + 1)
  unfolding upto
  count_next {b} {b'} {i} inv h q = record {
    within = omega arith;
    so_far = rw add-one (q ∙ ap (f i) inv.so_far);
  }

  pub count-ended : {b : B} {i : ℕ} → Counting f n b₀ b i → n ≤ i → b ≡ upto f n b₀
  count-ended {b} {i} inv h = let e : i ≡ n = omega arith in inv.so_far ∙ ap (λ (k : ℕ). upto f k b₀) e
