-- What the public functions promise leaves one result: stated over each function's own contract, as the check reads it.
use Prim.Native.Nat.{ℕ}
use mathlib.Core.Path.{◌≡◌, sym, ◌∙◌}
use mathlib.Core.List.{List}
use borrow.Fn.Kinds.{ended_of}
use contract.Lifetimes.{Lfts}
use denote.Ref.{Bor}
use denote.Triple.Clauses.{AtExit}
use Rattle.std.specs.Prelude.{ℤ, Option, Result}
use Rattle.cursor.specs.declared.Refusal.{Refusal}
use Rattle.book.specs.declared.Judged.{Judged}
use Rattle.book.specs.declared.Span.{Span}
use Rattle.book.specs.declared.question.RecordAnswer.{RecordAnswer}
use Rattle.book.specs.Question.{IsRecord, Answers}
use Rattle.laws.specs.Only.{Only}
use Rattle.book.proofs.HeldFromEntry.from.Reads as held-from-entry
use Rattle.book.proofs.RequestFromEntry.from.Reads as request-from-entry
use Rattle.book.proofs.judge.judge.Kinds as judge-kinds
use Rattle.book.proofs.judge.judge.Reads as judge
use Rattle.book.proofs.worth.worth_of_curve.Kinds as worth-of-curve-kinds
use Rattle.book.proofs.worth.worth_of_curve.Reads as worth-of-curve
use Rattle.book.proofs.question.find_record.Kinds as find-record-kinds
use Rattle.book.proofs.question.find_record.Reads as find-record
use Rattle.book.proofs.question.record.Kinds as record-kinds
use Rattle.book.proofs.question.record.Reads as record-asked
use Rattle.book.proofs.question.record_part.Kinds as record-part-kinds
use Rattle.book.proofs.question.record_part.Reads as record-part

judge-only : (κs : Lfts 1) (s : Bor (List ℕ)) (r r' : Result Judged Refusal) (e e' : AtExit (ended_of 1 judge-kinds.ps judge-kinds.r) κs) → judge.Post κs (s, tt) r e → judge.Post κs (s, tt) r' e' → r ≡ r'
judge-only κs s r r' e e' p q = p ∙ sym q

same-part : (s : Bor (List ℕ)) (job : ℕ) (p p' : Bor (List ℕ)) → IsRecord s job p → IsRecord s job p' → p ≡ p'
same-part s job p p' e e' = e ∙ sym e'

same_answer : (s : Bor (List ℕ)) (job : ℕ) (r r' : RecordAnswer) → Answers s job r → Answers s job r' → r ≡ r'
same_answer s job r r' e e' i = record { number = (e.0 ∙ sym e'.0) i; place = (e.1 ∙ sym e'.1) i; part = same-part s job r.part r'.part e.2 e'.2 i }

record-only : (κs : Lfts 1) (s : Bor (List ℕ)) (job : ℕ) (r r' : RecordAnswer) (e e' : AtExit (ended_of 1 record-kinds.ps record-kinds.r) κs) → record-asked.Post κs (s, (job, tt)) r e → record-asked.Post κs (s, (job, tt)) r' e' → r ≡ r'
record-only κs s job r r' e e' p q = same_answer s job r r' p q

record-part-only : (κs : Lfts 1) (s : Bor (List ℕ)) (job : ℕ) (p p' : Bor (List ℕ)) (e e' : AtExit (ended_of 1 record-part-kinds.ps record-part-kinds.r) κs) → record-part.Post κs (s, (job, tt)) p e → record-part.Post κs (s, (job, tt)) p' e' → p ≡ p'
record-part-only κs s job p p' e e' h k = same-part s job p p' h k

find-record-only : (κs : Lfts 1) (s : Bor (List ℕ)) (job : ℕ) (r r' : Result (Option Span) Refusal) (e e' : AtExit (ended_of 1 find-record-kinds.ps find-record-kinds.r) κs) → find-record.Post κs (s, (job, tt)) r e → find-record.Post κs (s, (job, tt)) r' e' → r ≡ r'
find-record-only κs s job r r' e e' p q = p ∙ sym q

worth-of-curve-only : (κs : Lfts 1) (s : Bor (List ℕ)) (t : ℕ) (r r' : Result (Option ℤ) Refusal) (e e' : AtExit (ended_of 1 worth-of-curve-kinds.ps worth-of-curve-kinds.r) κs)
    → worth-of-curve.Post κs (s, (t, tt)) r e → worth-of-curve.Post κs (s, (t, tt)) r' e' → r ≡ r'
worth-of-curve-only κs s t r r' e e' p q = p ∙ sym q

held-from-entry-only : Only (held-from-entry.Post tt)
held-from-entry-only a r r' s s' p q = p ∙ sym q

request-from-entry-only : Only (request-from-entry.Post tt)
request-from-entry-only a r r' s s' p q = p ∙ sym q
