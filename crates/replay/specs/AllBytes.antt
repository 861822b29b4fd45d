-- What a call writes into an output of bytes are bytes.
use Rattle.std.specs.Prelude.{◌≡◌, Bool, true, false, cond, List, [], ◌∷◌, ◌++◌, ℕ, zero, suc, ◌+◌, ◌-◌, ◌<◌, ◌≤◌, length, get_or, drop}
use Rattle.std.proofs.Common.{ap, inl, inr, arith, get_or-append-add, get_or-drop}
use Rattle.std.proofs.Math.ListN.{get_or-append, get_or-eq_default}
use Rattle.laws.specs.Stores.{over}
use Rattle.laws.specs.Search.{lt-or-le}
use Rattle.accepted.specs.Layout.{Bytes}
use Rattle.gus.specs.declared.Part.{Part}
use Rattle.gus.specs.Plan.{Answer}
use Rattle.planner.specs.Planned.{laid_plan}
use Rattle.ilhuepatl.specs.Answer.{two, four, bits, part_bytes, parts_bytes, answer_bytes}
use Rattle.replay.specs.ReadFields.{JobsFit}
use Rattle.replay.specs.Reads.{Fits, victims-whole, parts_whole}

no_bytes : Bytes []
no_bytes = record { byte = λ k. omega arith }

bytes-cons : {n : ℕ} {l : List ℕ} → n ≤ 255 → Bytes l → Bytes (n ∷ l)
bytes-cons {n} {l} h b = record { byte = at }
  where
    at : (k : ℕ) → get_or (n ∷ l) k 0 < 256
    at zero = omega arith
    at (suc k) = b.byte k

bytes-append : {a b : List ℕ} → Bytes a → Bytes b → Bytes (a ++ b)
bytes-append {a} {b} x y = record {
  byte = λ k. elim (lt-or-le k (length a)) [
    | inl l ↦ omega (arith, get_or-append a b 0 k l, x.byte k)
    | inr l ↦
        let e : k ≡ length a + (k - length a) = omega arith in
        omega (arith, ap (λ (n : ℕ). get_or (a ++ b) n 0) e, get_or-append-add a b (k - length a) 0, y.byte (k - length a))
  ];
}

bytes_drop : (n : ℕ) {l : List ℕ} → Bytes l → Bytes (drop n l)
bytes_drop n {l} b = record { byte = λ k. omega (arith, get_or-drop n l k 0, b.byte (n + k)) }

bytes-each : (l : List ℕ) → ((k : ℕ) → k < length l → get_or l k 0 ≤ 255) → Bytes l
bytes-each l h = record {
  byte = λ k. elim (lt-or-le k (length l)) [
    | inl s ↦ omega (arith, h k s)
    | inr s ↦ omega (arith, get_or-eq_default l 0 {n = k} s)
  ];
}

two_bytes : (v : ℕ) → Bytes (two v)
unfolding two
two_bytes v = bytes-cons (omega arith) (bytes-cons (omega arith) no_bytes)

four_bytes : (v : ℕ) → Bytes (four v)
unfolding four
four_bytes v = bytes-cons (omega arith) (bytes-cons (omega arith) (bytes-cons (omega arith) (bytes-cons (omega arith) no_bytes)))

mode-byte : (b : Bool) → cond b 1 0 ≤ 255
mode-byte true = omega arith
mode-byte false = omega arith

parts-bytes : (ps : List Part) → JobsFit ps → Bytes (parts_bytes ps)
unfolding parts_bytes part_bytes
parts-bytes [] h = no_bytes
parts-bytes (p ∷ ps) h = bytes-cons (h 0 (omega arith)) (bytes-cons (mode-byte p.rolling) (bytes-append (two_bytes p.time) (parts-bytes ps (λ k l. h (suc k) (omega arith)))))

written : (a : Answer) → Fits a → Bytes (answer_bytes (laid_plan a))
unfolding answer_bytes laid_plan
written a f =
    rw (victims-whole a, parts_whole a)
    (bytes-append
    (bytes-append
    (bytes-append (two_bytes _) (bytes-cons (omega arith) (bytes-cons (omega (arith, f.few_victims)) (bytes-each a.victims f.victims))))
    (bytes-cons (omega (arith, f.few_parts)) (parts-bytes a.plan.parts f.jobs)))
    (bytes-append (bytes-cons f.rounds (four_bytes (bits a.plan.total))) (four_bytes a.plan.end)))

pub answer-bytes : (a : Answer) {out : List ℕ} → Fits a → Bytes out → Bytes (over (answer_bytes (laid_plan a)) out)
unfolding over
answer-bytes a f b = bytes-append (written a f) (bytes_drop (length (answer_bytes (laid_plan a))) b)
