-- What the code reads of a curve's bytes, by the library and in parts, is what specs/Layout reads.
use Prim.Native.Nat.{ℕ, zero, suc, ◌+◌, ◌-◌, ◌^◌, ◌<◌, ◌≤◌}
use Rattle.std.proofs.Common.{inl, inr, refl, ◌∙◌, arith, lt-ltb, le-ltb, get_or-take, get_or-drop}
use Rattle.std.specs.Prelude.{◌≡◌, List, get_or, take, drop, cond, leb, Some}
use Rattle.std.specs.Int.{Width, w8, w16, w32, w64, w128, cast_signed}
use mir.Val.{bits, hbits}
use Rattle.laws.specs.Search.{lt-or-le}
use Rattle.cursor.specs.Field.{value_at}
use Rattle.curve.specs.Layout.{signed_of, piece_at}
use Rattle.curve.specs.Worth.{line_at}
use Rattle.curve.specs.Before.{worth_back}

-- two's complement, as the library has it and as specs/Layout has it
doubled : (w : Width) → 2 ^ bits w ≡ 2 ^ hbits w + 2 ^ hbits w
doubled w8 = refl
doubled w16 = refl
doubled w32 = refl
doubled w64 = refl
doubled w128 = refl

pub signed_bits : (w : Width) (n : ℕ) → n < 2 ^ bits w → cast_signed w n ≡ signed_of (2 ^ bits w - 1) n
unfolding signed_of
signed_bits w n h =
    let half : ℕ = 2 ^ hbits w in
    let all : ℕ = 2 ^ bits w in
    let two : all ≡ half + half = doubled w in
    elim (lt-or-le n half) [
      | inl l ↦ let low : n ≤ all - 1 - n = omega arith in rw (lt-ltb n half l, le-ltb (all - 1 - n) n low)
      | inr l ↦
          let high : all - 1 - n < n = omega arith in
          let whole : all - 1 + 1 ≡ all = omega arith in
          rw (le-ltb n half l, lt-ltb (all - 1 - n) n high, whole, lt-ltb n all h)
    ]

-- a field is its bytes
value_same : (a b : List ℕ) (x y : ℕ) → ((d i j : ℕ) → d < 4 → i ≡ x + d → j ≡ y + d → get_or a i 0 ≡ get_or b j 0) → value_at a x 4 ≡ value_at b y 4
unfolding value_at
value_same a b x y same =
    rw (
      same 0 x y (omega arith) (omega arith) (omega arith),
      same 1 (x + 1) (y + 1) (omega arith) refl refl,
      same 2 (x + 2) (y + 2) (omega arith) refl refl,
      same 3 (x + 3) (y + 3) (omega arith) refl refl,
    )

slope_same : (a b : List ℕ) (x y : ℕ) → ((d i j : ℕ) → d < 2 → i ≡ x + d → j ≡ y + d → get_or a i 0 ≡ get_or b j 0) → value_at a x 2 ≡ value_at b y 2
unfolding value_at
slope_same a b x y same = rw (same 0 x y (omega arith) (omega arith) (omega arith), same 1 (x + 1) (y + 1) (omega arith) refl refl)

piece_same : (a b : List ℕ) (p q : ℕ) → ((d i j : ℕ) → d < 10 → i ≡ p + d → j ≡ q + d → get_or a i 0 ≡ get_or b j 0) → piece_at a p ≡ piece_at b q
piece_same a b p q same =
    rw (
      value_same a b p q (λ d i j l e f. same d i j (omega arith) e f),
      value_same a b (p + 4) (q + 4) (λ d i j l e f. same (d + 4) i j (omega arith) (omega arith) (omega arith)),
      slope_same a b (p + 8) (q + 8) (λ d i j l e f. same (d + 8) i j (omega arith) (omega arith) (omega arith)),
    )

module _ (s : List ℕ) (k : ℕ) where
  pub end_behind : value_at (take 4 (drop k s)) 0 4 ≡ value_at s k 4
  end_behind = value_same (take 4 (drop k s)) s 0 k (λ d i j l e f. let there : j ≡ k + i = omega arith in rw there (get_or-take 4 (drop k s) i 0 (omega arith) ∙ get_or-drop k s i 0))

  pub piece_behind : piece_at (drop k s) 0 ≡ piece_at s k
  piece_behind = piece_same (drop k s) s 0 k (λ d i j l e f. let there : j ≡ k + i = omega arith in rw there (get_or-drop k s i 0))

  piece_before : (p : ℕ) → p + 10 ≤ k → piece_at (take k s) p ≡ piece_at s p
  piece_before p h = piece_same (take k s) s p p (λ d i j l e f. let there : j ≡ i = omega arith in rw there (get_or-take k s i 0 (omega arith)))

  -- what stands before a place is worth what it is worth among all the bytes
  pub back_before : (t n p : ℕ) → p ≤ k → worth_back (take k s) p t n ≡ worth_back s p t n
  unfolding worth_back
  back_before t zero p l = refl
  back_before t (suc n) p l =
      elim (lt-or-le p 10) [
        | inl short ↦ rw (lt-ltb p 10 short)
        | inr there ↦
            let piece = piece_before (p - 10) (omega arith) in
            let rest = back_before t n (p - 10) (omega arith) in
            rw (le-ltb p 10 there) (λ i. cond (leb (piece i).start t) (Some (line_at (piece i) t)) (rest i))
      ]
