-- What was written where: a text stored from a place on, and the place after it.
use Rattle.std.specs.Prelude.{◌≡◌, refl, List, [], ◌++◌, ℕ, ◌+◌, ◌≤◌, length}
use Rattle.std.proofs.Common.{sym, ap, ◌∙◌, append-nil, append_assoc, arith, length-append}
use Rattle.std.proofs.lemmas.List.Edits.{sets}
use Rattle.std.proofs.Math.Seq.{length-sets, take-length}
use Rattle.laws.specs.Stores.{Storing, storing-ended, then-sets}

pub record Wrote (out : List ℕ) (place : ℕ) (text after : List ℕ) (next : ℕ) : Type 0 where
  pub end : next ≡ place + length text
  pub stored : after ≡ sets out place text

module _ {out : List ℕ} {place : ℕ} {t a : List ℕ} {n : ℕ} where
  pub wrote-length : Wrote out place t a n → length a ≡ length out
  wrote-length w = ap length w.stored ∙ length-sets out place t

  -- two texts, the second where the first ends
  pub wrote_then : {u b : List ℕ} {m : ℕ} → Wrote out place t a n → Wrote a n u b m → Wrote out place (t ++ u) b m
  wrote_then {u} w x = record {
    end = omega (arith, w.end, x.end, length-append t u);
    stored = x.stored ∙ ap (λ (l : List ℕ). sets l n u) w.stored ∙ then-sets out place n t u w.end;
  }

-- a text that was stored byte by byte
pub wrote-all : {out : List ℕ} {place : ℕ} {text : List ℕ} {i : ℕ} {a : List ℕ} → Storing (λ t. t) out place text (length text) i a → length text ≤ i → Wrote out place text a (place + i)
wrote-all {out} {place} {text} inv h = record {
  end = omega (arith, inv.within);
  stored = storing-ended inv h ∙ ap (sets out place) (take-length text);
}

-- a loop that writes the text `whole` piece by piece, with `rest` still to be written
pub record Writing (out : List ℕ) (place : ℕ) (whole rest a : List ℕ) (n : ℕ) : Type 0 where
  pub done : List ℕ
  pub split : done ++ rest ≡ whole
  pub wrote : Wrote out place done a n

module _ {out : List ℕ} {place : ℕ} {whole : List ℕ} where
  pub writing-begin : Writing out place whole whole out place
  writing-begin = record { done = []; split = refl; wrote = record { end = omega arith; stored = refl } }

  module _ {a : List ℕ} {n : ℕ} (t rest : List ℕ) where
    pub writing-next : {b : List ℕ} {m : ℕ} → Writing out place whole (t ++ rest) a n → Wrote a n t b m → Writing out place whole rest b m
    writing-next w x = record { done = w.done ++ t; split = append_assoc w.done t rest ∙ w.split; wrote = wrote_then w.wrote x }

    pub writing-room : Writing out place whole (t ++ rest) a n → place + length whole ≤ length out → n + length t ≤ length a
    writing-room w h = omega (arith, w.wrote.end, wrote-length w.wrote, ap length w.split, length-append w.done (t ++ rest), length-append t rest)

  pub writing-ended : {a : List ℕ} {n : ℕ} → Writing out place whole [] a n → Wrote out place whole a n
  writing-ended w = let e = sym (append-nil w.done) ∙ w.split in rw e at w.wrote
