-- "The first refusal met": a reader of the format that begins refused hands the refusal on, and so does a loop of readers.
use Prim.Native.Nat.{ℕ, zero, suc, ◌<◌, ◌≤◌}
use native.Mathlib.Omega.{arith}
use mathlib.Core.Path.{◌≡◌, refl}
use mathlib.Core.Bool.{Bool}
use mathlib.Core.List.{List}
use Rattle.std.specs.Prelude.{Result, Ok, Err}
use Rattle.std.specs.Result.{IsErrAnd}
use Rattle.std.proofs.lemmas.Result.{err_from_is_err_and, MatchResult-weaker}
use Rattle.std.proofs.Common.{eq-or-lt_of_le, le_of_suc-le-suc}
use Rattle.std.proofs.Math.Logic.{⊎_elim}
use Rattle.laws.specs.Count.{upto}
use Rattle.curve.specs.declared.Piece.{Piece}
use Rattle.cursor.specs.Reading.{Reading}
use Rattle.cursor.specs.declared.FieldRead.{FieldRead}
use Rattle.cursor.specs.declared.Refusal.{Refusal}
use Rattle.cursor.specs.Refusal.{RANGE}
use Rattle.cursor.specs.Field.{field_of, rule_of}
use Rattle.cursor.specs.Step.{stands_at}
use Rattle.cursor.specs.Answer.{field_at, ruled, Refused, Says}
use Rattle.cursor.proofs.Says.{field-says, rule-says, field-stays, rule-stays, at_ok, at_err}
use Rattle.book.specs.Read.{HeldList, PieceList, Records}
use Rattle.book.specs.Format.{rollback_read, requested_resource, requested_rollback, request_read, unheld_read, held_resource, entry_read, entry_next, held_read, start_read, signed_read, piece_read, piece_next, pieces_read, end_read, curve_read, record_read, record_next, tail_read}

-- an exit by `?` hands on what it was given
pub by-err : {A : Type 0} (o : Result A Refusal) {d : Refusal} → IsErrAnd o (λ y. y ≡ d) → o ≡ Err d
by-err o e = let p = err_from_is_err_and o e in rw p.2 at p.1

pub within : (e : Reading) {low high : ℕ} (o : Result FieldRead Refusal) → low ≤ high → Says e low o → Says e high o
within e o h says = MatchResult-weaker o says (λ f q. (q.0, omega (arith, q.1, h))) (λ d q. q)

-- a field under RANGE, and a further rule on its value
module _ (s : List ℕ) (n low high : ℕ) (ok : ℕ → Bool) (at : ℕ) where
  abbrev ruled_field : Reading
  ruled_field = let a = field_of s n low high RANGE (stands_at at) in rule_of (ok a.value) RANGE a.place a

  pub ruled-stops : {o : Result FieldRead Refusal} {d : Refusal} → o ≡ field_at s at n low high RANGE → o ≡ Err d → Refused ruled_field d
  ruled-stops is was = rule-stays (at_err high (field-says s n low high RANGE (omega arith) at is) was) _ _ _

  pub ruled-says : {o o' : Result FieldRead Refusal} {f : FieldRead} {b : Bool} → o ≡ field_at s at n low high RANGE → o ≡ Ok f → b ≡ ok f.value → o' ≡ ruled b RANGE f.place f → Says ruled_field high o'
  ruled-says {o' = o'} {f = f} is was test e =
      let p = at_ok high (field-says s n low high RANGE (omega arith) at is) was in
      rw p.0 (within _ o' p.1 (rule-says (ok f.value) RANGE f.place f (omega arith) refl (rw test at e)))

-- a loop of readers
module _ {B : Type 0} (f : ℕ → B → B) (read : B → Reading) {d : Refusal} (stays : (i : ℕ) (b : B) → Refused (read b) d → Refused (read (f i b)) d) where
  pub upto-stays : (n : ℕ) (b : B) → Refused (read b) d → Refused (read (upto f n b)) d
  unfolding upto
  upto-stays zero b met = met
  upto-stays (suc n) b met = stays n (upto f n b) (upto-stays n b met)

  pub upto-stops : (i n : ℕ) (b : B) → i < n → Refused (read (f i (upto f i b))) d → Refused (read (upto f n b)) d
  unfolding upto
  upto-stops i zero b h met = absurd (omega arith)
  upto-stops i (suc n) b h met = ⊎_elim (λ e. rw (← e) met) (λ lt. stays n (upto f n b) (upto-stops i n b lt met)) (eq-or-lt_of_le (le_of_suc-le-suc h))

module _ (s : List ℕ) {d : Refusal} where
  field-ruled : (n low high : ℕ) (ok : ℕ → Bool) {e : Reading} → Refused e d → let a = field_of s n low high RANGE e in Refused (rule_of (ok a.value) RANGE a.place a) d
  field-ruled n low high ok met = rule-stays (field-stays met s n low high RANGE) _ _ _

  pub rollback-stays : {e : Reading} → Refused e d → Refused (rollback_read s e) d
  unfolding rollback_read
  rollback-stays met = rule-stays (field-stays met s _ _ _ _) _ _ _

  pub requested-stays : (resource : ℕ) {e : Reading} → Refused e d → Refused (requested_rollback s resource e) d
  unfolding requested_rollback
  requested-stays resource met = rule-stays (field-stays met s _ _ _ _) _ _ _

  pub request-stays : (resources run : ℕ) {e : Reading} → Refused e d → Refused (request_read s resources run e).reading d
  unfolding request_read requested_resource
  request-stays resources run met = requested-stays _ (field-stays (rule-stays (field-stays met s _ _ _ _) _ _ _) s _ _ _ _)

  entry-stays : (resources run rollback : ℕ) (holders : List ℕ) {e : Reading} → Refused e d → Refused (entry_read s resources run rollback holders e).reading d
  unfolding entry_read held_resource unheld_read
  entry-stays resources run rollback holders met = field-stays (field-stays (rule-stays (rule-stays (field-stays met s _ _ _ _) _ _ _) _ _ _) s _ _ _ _) s _ _ _ _

  pub entries-stay : (job resources run rollback i : ℕ) (h : HeldList) → Refused h.reading d → Refused (entry_next s job resources run rollback i h).reading d
  unfolding entry_next
  entries-stay job resources run rollback i h met = entry-stays resources run rollback h.holders met

  pub held-stays : (job resources run rollback : ℕ) (holders : List ℕ) {e : Reading} → Refused e d → Refused (held_read s job resources run rollback holders e).reading d
  unfolding held_read
  held-stays job resources run rollback holders met = upto-stays (entry_next s job resources run rollback) (λ h. h.reading) (entries-stay job resources run rollback) _ _ (field-stays met s _ _ _ _)

  pub signed-stays : (n most high : ℕ) {e : Reading} → Refused e d → Refused (signed_read s n most high e) d
  unfolding signed_read
  signed-stays n most high met = rule-stays (field-stays met s _ _ _ _) _ _ _

  pub piece-stays : (low : ℕ) (last : Piece) {e : Reading} → Refused e d → Refused (piece_read s low last e).reading d
  unfolding piece_read start_read
  piece-stays low last met = signed-stays _ _ _ (signed-stays _ _ _ (rule-stays (field-stays met s _ _ _ _) _ _ _))

  pub pieces-stay : (i : ℕ) (c : PieceList) → Refused c.reading d → Refused (piece_next s i c).reading d
  unfolding piece_next
  pieces-stay i c met = piece-stays c.low c.last met

  pub end-stays : (last : Piece) {e : Reading} → Refused e d → Refused (end_read s last e) d
  unfolding end_read
  end-stays last met = rule-stays (field-stays met s _ _ _ _) _ _ _

  pub curve-stays : {e : Reading} → Refused e d → Refused (curve_read s e).reading d
  unfolding curve_read pieces_read
  curve-stays met = end-stays _ (upto-stays (piece_next s) (λ c. c.reading) pieces-stay _ _ (field-stays met s _ _ _ _))

  pub record-stays : (job resources : ℕ) (holders : List ℕ) {e : Reading} → Refused e d → Refused (record_read s job resources holders e).reading d
  unfolding record_read
  record-stays job resources holders met =
      rule-stays (curve-stays (held-stays job resources _ _ holders (request-stays resources _ (rollback-stays (field-stays (field-stays met s _ _ _ _) s _ _ _ _))))) _ _ _

  pub records-stay : (resources i : ℕ) (b : Records) → Refused b.reading d → Refused (record_next s resources i b).reading d
  unfolding record_next
  records-stay resources i b met = record-stays i resources b.holders met

  pub tail-stays : {e : Reading} → Refused e d → Refused (tail_read s e) d
  unfolding tail_read
  tail-stays met = rule-stays met _ _ _
