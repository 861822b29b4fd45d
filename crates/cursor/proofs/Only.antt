-- What the public functions promise leaves one result: stated over each function's own contract, as the check reads it.
use Prim.Native.Nat.{ℕ}
use mathlib.Core.Path.{◌≡◌, sym, ap, ◌∙◌}
use mathlib.Core.Bool.{Bool}
use mathlib.Core.List.{List}
use seplogic.Ra.Ura.{Ura}
use base.Logic.{SProp, ent}
use prog.Memory.{Memory}
use prog.Routine.{Routine}
use types.Logic.{Logic}
use borrow.Fn.Kinds.{ended_of}
use contract.Lifetimes.{Lfts}
use contract.Monad.{Fun, conj, fact}
use denote.Ref.{Bor}
use denote.Triple.Clauses.{AtExit}
use Rattle.cursor.specs.declared.Header.{Header}
use Rattle.cursor.specs.declared.HeaderRefused.{HeaderRefused}
use Rattle.cursor.specs.declared.reader.BookReader.{BookReader}
use Rattle.cursor.specs.declared.reader.NextField.{NextField}
use Rattle.std.specs.Prelude.{Result}
use Rattle.cursor.specs.declared.FieldRead.{FieldRead}
use Rattle.cursor.specs.declared.Refusal.{Refusal}
use Rattle.cursor.specs.Step.{place_after}
use Rattle.cursor.proofs.Says.{step_said}
use Rattle.cursor.proofs.Both.{both}
use Rattle.cursor.proofs.field.value_at.Kinds as value-at-kinds
use Rattle.cursor.proofs.field.value_at.Reads as value-at
use Rattle.cursor.proofs.field.field.Kinds as field-kinds
use Rattle.cursor.proofs.field.field.Reads as field
use Rattle.cursor.proofs.field.rule.Kinds as rule-kinds
use Rattle.cursor.proofs.field.rule.Reads as rule
use Rattle.cursor.proofs.field.field_after.Kinds as field-after-kinds
use Rattle.cursor.proofs.field.field_after.Reads as field-after
use Rattle.cursor.proofs.field.rule_after.Kinds as rule-after-kinds
use Rattle.cursor.proofs.field.rule_after.Reads as rule-after
use Rattle.cursor.proofs.RefusalFromHeaderRefused.from.Reads as refusal-from-header
use Rattle.cursor.proofs.head.header.Kinds as header-kinds
use Rattle.cursor.proofs.head.header.Reads as header
use Rattle.cursor.specs.contracts.reader.open_reader as open-reader
use Rattle.cursor.specs.contracts.reader.next_field as next_field
use Rattle.cursor.specs.contracts.reader.place_of as place_of

value-at-only : (κs : Lfts 1) (s : Bor (List ℕ)) (place n r r' : ℕ) (e e' : AtExit (ended_of 1 value-at-kinds.ps value-at-kinds.r) κs)
    → value-at.Post κs (s, (place, (n, tt))) r e → value-at.Post κs (s, (place, (n, tt))) r' e' → r ≡ r'
value-at-only κs s place n r r' e e' p q = p.0 ∙ sym q.0

field-only : (κs : Lfts 1) (s : Bor (List ℕ)) (place n low high number : ℕ) (o o' : Result FieldRead Refusal) (e e' : AtExit (ended_of 1 field-kinds.ps field-kinds.r) κs)
    → field.Post κs (s, (place, (n, (low, (high, (number, tt)))))) o e → field.Post κs (s, (place, (n, (low, (high, (number, tt)))))) o' e' → o ≡ o'
field-only κs s place n low high number o o' e e' p q = p ∙ sym q

-- and so one step, as a reader that stood at the place makes it
step-from-only : (κs : Lfts 1) (s : Bor (List ℕ)) (place n low high number : ℕ) (o o' : Result FieldRead Refusal) (e e' : AtExit (ended_of 1 field-kinds.ps field-kinds.r) κs)
    → field.Post κs (s, (place, (n, (low, (high, (number, tt)))))) o e → field.Post κs (s, (place, (n, (low, (high, (number, tt)))))) o' e' → step_said place o ≡ step_said place o'
step-from-only κs s place n low high number o o' e e' p q = ap (step_said place) (field-only κs s place n low high number o o' e e' p q)

rule-only : (f : FieldRead) (ok : Bool) (number place : ℕ) (o o' : Result FieldRead Refusal) (e e' : AtExit (ended_of 0 rule-kinds.ps rule-kinds.r) tt)
    → rule.Post tt (f, (ok, (number, (place, tt)))) o e → rule.Post tt (f, (ok, (number, (place, tt)))) o' e' → o ≡ o'
rule-only f ok number place o o' e e' p q = p ∙ sym q

field-after-only : (κs : Lfts 1) (s : Bor (List ℕ)) (read : Result FieldRead Refusal) (n low high number : ℕ) (o o' : Result FieldRead Refusal) (e e' : AtExit (ended_of 1 field-after-kinds.ps field-after-kinds.r) κs)
    → field-after.Post κs (s, (read, (n, (low, (high, (number, tt)))))) o e → field-after.Post κs (s, (read, (n, (low, (high, (number, tt)))))) o' e' → o ≡ o'
field-after-only κs s read n low high number o o' e e' p q = p ∙ sym q

rule-after-only : (read : Result FieldRead Refusal) (ok : Bool) (number place : ℕ) (o o' : Result FieldRead Refusal) (e e' : AtExit (ended_of 0 rule-after-kinds.ps rule-after-kinds.r) tt)
    → rule-after.Post tt (read, (ok, (number, (place, tt)))) o e → rule-after.Post tt (read, (ok, (number, (place, tt)))) o' e' → o ≡ o'
rule-after-only read ok number place o o' e e' p q = p ∙ sym q

refusal-from-header-only : (h : HeaderRefused) (d d' : Refusal) (e e' : _) → refusal-from-header.Post tt (h, tt) d e → refusal-from-header.Post tt (h, tt) d' e' → d ≡ d'
refusal-from-header-only h d d' e e' p q = p ∙ sym q

header-only : (κs : Lfts 1) (s : Bor (List ℕ)) (o o' : Result Header HeaderRefused) (e e' : AtExit (ended_of 1 header-kinds.ps header-kinds.r) κs) → header.Post κs (s, tt) o e → header.Post κs (s, tt) o' e' → o ≡ o'
header-only κs s o o' e e' p q = p.is ∙ sym q.is

same-reader : {r r' : BookReader} → r.book ≡ r'.book → r.place ≡ r'.place → r ≡ r'
same-reader b p i = record { book = b i; place = p i }

same-field : {x x' : NextField} → x.field ≡ x'.field → x.rest ≡ x'.rest → x ≡ x'
same-field p r i = record { field = p i; rest = r i }

-- A function over a `BookReader` has its contract as an assertion alone: two results that it allows in one state are the same.
module _ {M : Type 1} {𝓤 : Ura M} (𝓛 : Logic 𝓤) (mem : Memory → SProp 𝓤) (run : Routine → Fun 𝓤) (κs : Lfts 1) where
  open-reader-only : (book : Bor (List ℕ)) (r r' : BookReader) (e e' : AtExit open-reader.ended κs)
      → ent 𝓤 (conj 𝓤 ((open-reader.clauses 𝓛 mem run κs (book, tt)).ensures tt r e) ((open-reader.clauses 𝓛 mem run κs (book, tt)).ensures tt r' e')) (fact 𝓤 (r ≡ r'))
  open-reader-only book r r' e e' = both 𝓤 _ _ (r ≡ r') (λ p q. same-reader (p.0 ∙ sym q.0) (p.1 ∙ sym q.1))

  next-field-only : (a : BookReader) (n low high number : ℕ) (x x' : NextField) (e e' : AtExit next_field.ended κs)
      → ent 𝓤 (conj 𝓤 ((next_field.clauses 𝓛 mem run κs (a, (n, (low, (high, (number, tt)))))).ensures tt x e) ((next_field.clauses 𝓛 mem run κs (a, (n, (low, (high, (number, tt)))))).ensures tt x' e')) (fact 𝓤 (x ≡ x'))
  next-field-only a n low high number x x' e e' = both 𝓤 _ _ (x ≡ x') (λ p q. let s : x.field ≡ x'.field = p.0 ∙ sym q.0 in same-field s (same-reader (p.1 ∙ sym q.1) (p.2 ∙ ap (place_after a.place) s ∙ sym q.2)))

  place-of-only : (a : BookReader) (p p' : ℕ) (e e' : AtExit place_of.ended κs)
      → ent 𝓤 (conj 𝓤 ((place_of.clauses 𝓛 mem run κs (a, tt)).ensures tt p e) ((place_of.clauses 𝓛 mem run κs (a, tt)).ensures tt p' e')) (fact 𝓤 (p ≡ p'))
  place-of-only a p p' e e' = both 𝓤 _ _ (p ≡ p') (λ h k. h ∙ sym k)
