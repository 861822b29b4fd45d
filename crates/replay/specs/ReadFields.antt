-- What is read of the fields of an answer: in a list that begins with a field's bytes, whatever comes after them.
use Rattle.std.specs.Prelude.{◌≡◌, refl, Bool, true, false, cond, List, [], ◌∷◌, ◌++◌, ℕ, zero, suc, ◌+◌, ◌-◌, ◌*◌, ◌/◌, ◌%◌, ◌<◌, ◌≤◌, eqb, ℤ, pos, negsuc, length, get_or}
use Rattle.std.proofs.Common.{ap, add_assoc, div-add-mod', arith, get_or-append-add, lt-ltb, le-ltb}
use Rattle.laws.specs.Signed.{up, dn, same, up-sub, dn-sub}
use Rattle.cursor.specs.Field.{value_at}
use Rattle.curve.specs.Layout.{signed_of}
use Rattle.gus.specs.declared.Part.{Part}
use Rattle.planner.specs.LaidOut.{empty_part}
use Rattle.ilhuepatl.specs.Answer.{two, four, bits, part_bytes}
use Rattle.replay.specs.ReadBack.{each, part_in}

-- ---- past a front the places go on from its end
pub value-past : (a b : List ℕ) (p k n : ℕ) → p ≡ length a + k → value_at (a ++ b) p n ≡ value_at b k n
unfolding value_at
value-past a b p k n e = rw e (simp (add_assoc, get_or-append-add a b))

pub part-past : (a b : List ℕ) (p k : ℕ) → p ≡ length a + k → part_in (a ++ b) p ≡ part_in b k
part-past a b p k e = λ i. record {
  job = value-past a b p k 1 e i;
  rolling = eqb (value-past a b (p + 1) (k + 1) 1 (omega arith) i) 1;
  time = value-past a b (p + 2) (k + 2) 2 (omega arith) i;
}

pub each_same : {A : Type 0} (count : ℕ) (f g : ℕ → A) → ((k : ℕ) → f k ≡ g k) → each count f ≡ each count g
unfolding each
each_same zero f g h = refl
each_same (suc count) f g h = λ i. h 0 i ∷ each_same count (λ k. f (suc k)) (λ k. g (suc k)) (λ k. h (suc k)) i

-- ---- numbers
joined : (v a b c t h o : ℕ) → a * 256 + o ≡ v → b * 256 + h ≡ a → c * 256 + t ≡ b → c * 16777216 + t * 65536 + h * 256 + o ≡ v
joined v a b c t h o p q r = omega arith

pub four-read : (v : ℕ) (rest : List ℕ) → v ≤ 4294967295 → value_at (four v ++ rest) 0 4 ≡ v
unfolding value_at four
four-read v rest h =
    let first : v / 16777216 % 256 ≡ v / 16777216 = omega arith in
    let second : v / 65536 ≡ v / 256 / 256 = omega arith in
    let third : v / 16777216 ≡ v / 65536 / 256 = omega arith in
    rw first (joined v (v / 256) (v / 65536) (v / 16777216) (v / 65536 % 256) (v / 256 % 256) (v % 256) (div-add-mod' v 256) (rw second (div-add-mod' (v / 256) 256)) (rw third (div-add-mod' (v / 65536) 256)))

pub bits_small : (z : ℤ) → bits z ≤ 4294967295
unfolding bits
bits_small z = omega arith

pub signed-read : (z : ℤ) → up z ≤ 2147483647 → dn z ≤ 2147483648 → signed_of 4294967295 (bits z) ≡ z
unfolding signed_of bits
signed-read (pos n) h l = let e : (n + 4294967296 - 0) % 4294967296 ≡ n = omega arith in rw (e, le-ltb (4294967295 - n) n (omega arith))
signed-read (negsuc n) h l =
    let e : (0 + 4294967296 - suc n) % 4294967296 ≡ 4294967295 - n = omega arith in
    rw (e, lt-ltb (4294967295 - (4294967295 - n)) (4294967295 - n) (omega arith)) (same _ _ (omega (arith, up-sub (4294967295 - n) 4294967296)) (omega (arith, dn-sub (4294967295 - n) 4294967296)))

-- ---- victims and parts
pub bytes_read : (bs rest : List ℕ) → each (length bs) (λ k. value_at (bs ++ rest) k 1) ≡ bs
unfolding each value_at
bytes_read [] rest = refl
bytes_read (b ∷ bs) rest = ap {B = List ℕ} (λ l. b ∷ l) (bytes_read bs rest)

mode-read : (b : Bool) → eqb (cond b 1 0) 1 ≡ b
mode-read true = refl
mode-read false = refl

pub part-read : (p : Part) (rest : List ℕ) → p.time ≤ 65535 → part_in (part_bytes p ++ rest) 0 ≡ p
unfolding part_bytes value_at two
part-read p rest h =
    let e : (part_in (part_bytes p ++ rest) 0).time ≡ p.time = omega arith in
    λ i. record { job = p.job; rolling = mode-read p.rolling i; time = e i }

-- each of the job numbers has room in its byte, and each of the times in its two
abbrev pub JobsFit : List Part → Type 0
JobsFit ps = (k : ℕ) → k < length ps → (get_or ps k empty_part).job ≤ 255

abbrev pub TimesFit : List Part → Type 0
TimesFit ps = (k : ℕ) → k < length ps → (get_or ps k empty_part).time ≤ 65535
