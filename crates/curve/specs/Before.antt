-- The question of a curve's worth by the place of its termination and how many pieces stand before it.
use Prim.Native.Nat.{ℕ, zero, suc, ◌+◌, ◌-◌, ◌<◌, ◌≤◌}
use Rattle.std.proofs.Common.{not-suc-le-zero, sym, ◌∙◌}
use native.Mathlib.Omega.{arith}
use Rattle.std.specs.Prelude.{Bool, true, false, cond, List, ◌≡◌, ltb, leb, length, ℤ, Option, None, Some}
use Rattle.std.proofs.Math.Path.{refl}
use borrow.Author.Tests.{lt-ltb, le-ltb, le-leb, lt-leb}
use Rattle.cursor.specs.Field.{value_at}
use Rattle.curve.specs.declared.Piece.{Piece}
use Rattle.curve.specs.Worth.{line_at, worth_in}
use Rattle.curve.specs.Layout.{piece_at, piece_place, curve_at, curve_end}
use Rattle.curve.specs.Question.{piece-stands}

-- by the n pieces before a place: the last that starts at or before t; where the bytes begin before it, none
unfoldable pub worth_back : List ℕ → ℕ → ℕ → ℕ → Option ℤ
worth_back s place t zero = None
worth_back s place t (suc n) =
    cond (ltb place 10) None
    (cond (leb (piece_at s (place - 10)).start t) (Some (line_at (piece_at s (place - 10)) t)) (worth_back s (place - 10) t n))

-- THE WORTH OF THE CURVE WHOSE TERMINATION STANDS AT A PLACE, with n pieces before it; none where the bytes end before it does
unfoldable pub worth_before : List ℕ → ℕ → ℕ → ℕ → Option ℤ
worth_before s end n t = cond (leb (end + 4) (length s)) (cond (ltb (value_at s end 4) t) None (worth_back s end t n)) None

module _ (s : List ℕ) (end n t : ℕ) where
  pub before-cut : length s < end + 4 → worth_before s end n t ≡ None
  unfolding worth_before
  before-cut h = rw (lt-leb (end + 4) (length s) h)

  pub before-after : end + 4 ≤ length s → value_at s end 4 < t → worth_before s end n t ≡ None
  unfolding worth_before
  before-after h l = rw (le-leb (end + 4) (length s) h, lt-ltb (value_at s end 4) t l)

  pub before-until : end + 4 ≤ length s → t ≤ value_at s end 4 → worth_before s end n t ≡ worth_back s end t n
  unfolding worth_before
  before-until h l = rw (le-leb (end + 4) (length s) h, le-ltb (value_at s end 4) t l)

-- no piece serves where there is none
pub before-none : (s : List ℕ) (end t : ℕ) → worth_before s end 0 t ≡ None
unfolding worth_before worth_back
before-none s end t = by (leb (end + 4) (length s)) (ltb (value_at s end 4) t) None
  where
    by : (a b : Bool) (w : Option ℤ) → cond a (cond b w w) w ≡ w
    by true true w = refl
    by true false w = refl
    by false b w = refl

module _ (s : List ℕ) (t place : ℕ) where
  short : (n : ℕ) → 0 < n → place < 10 → worth_back s place t n ≡ None
  unfolding worth_back
  short zero h l = absurd (not-suc-le-zero h)
  short (suc n) h l = rw (lt-ltb place 10 l)

  served : (n : ℕ) → 0 < n → 10 ≤ place → (piece_at s (place - 10)).start ≤ t → worth_back s place t n ≡ Some (line_at (piece_at s (place - 10)) t)
  unfolding worth_back
  served zero h l q = absurd (not-suc-le-zero h)
  served (suc n) h l q = rw (le-ltb place 10 l, le-leb (piece_at s (place - 10)).start t q)

  passed : (n : ℕ) → 0 < n → 10 ≤ place → t < (piece_at s (place - 10)).start → worth_back s place t n ≡ worth_back s (place - 10) t (n - 1)
  unfolding worth_back
  passed zero h l q = absurd (not-suc-le-zero h)
  passed (suc n) h l q = let e : suc n - 1 ≡ n = omega arith in rw (e, le-ltb place 10 l, lt-leb (piece_at s (place - 10)).start t q)

  pub none : (n : ℕ) → n ≤ 0 → worth_back s place t n ≡ None
  unfolding worth_back
  none zero h = refl
  none (suc n) h = absurd (not-suc-le-zero h)

-- The loop's whole invariant: the pieces that are left give the worth that all give.
pub record Backing (s : List ℕ) (t end n place left : ℕ) : Type 0 where
  pub within : place ≤ end
  pub same : worth_back s place t left ≡ worth_back s end t n

module _ {s : List ℕ} {t end n : ℕ} where
  pub backing-begin : Backing s t end n end n
  backing-begin = record { within = omega arith; same = refl }

  module _ {place left : ℕ} (b : Backing s t end n place left) where
    pub backing-short : 0 < left → place < 10 → None ≡ worth_back s end t n
    backing-short h l = sym (short s t place left h l) ∙ b.same

    module _ {p : Piece} (h : 0 < left) (l : 10 ≤ place) (e : p ≡ piece_at s (place - 10)) where
      pub backing-served : p.start ≤ t → Some (line_at p t) ≡ worth_back s end t n
      backing-served q = rw e (sym (served s t place left h l (rw e at q)) ∙ b.same)

      pub backing-next : t < p.start → Backing s t end n (place - 10) (left - 1)
      backing-next q = record { within = omega arith; same = sym (passed s t place left h l (rw e at q)) ∙ b.same }

module _ (s : List ℕ) (p : ℕ) (few : value_at s p 1 ≤ 8) (h : curve_end s p ≤ length s) (t : ℕ) where
  -- a curve's first k pieces, read back
  pub back_is : (k : ℕ) → k ≤ value_at s p 1 → worth_back s (piece_place p k) t k ≡ worth_in (curve_at s p).pieces t k
  unfolding worth_back worth_in
  back_is zero l = refl
  back_is (suc k) l =
      let e : piece_place p (suc k) - 10 ≡ piece_place p k = omega arith in
      rw (le-ltb (piece_place p (suc k)) 10 (omega arith), e, piece-stands s p few k (omega arith), back_is k (omega arith))
