-- The loops that judge a list and lay none of it out: each keeps a view of what its definition has after as many turns.
use Rattle.std.specs.Prelude.{ℕ, zero, suc, ◌+◌, ◌<◌, ◌≤◌, ◌≡◌, List, [], ◌∷◌, map, Result, Ok, MatchResult}
use Rattle.std.proofs.Math.Numerals.{add-one}
use Rattle.std.proofs.Common.{arith, ◌∙◌}
use Rattle.std.proofs.Math.Path.{refl, ap, sym}
use Rattle.std.proofs.Math.ListN.{set}
use Rattle.laws.specs.Count.{upto}
use Rattle.curve.specs.declared.Piece.{Piece}
use Rattle.cursor.specs.Reading.{Reading}
use Rattle.cursor.specs.declared.FieldRead.{FieldRead}
use Rattle.cursor.specs.declared.Refusal.{Refusal}
use Rattle.cursor.specs.Field.{field_of}
use Rattle.cursor.specs.Step.{stands_at}
use Rattle.cursor.specs.Answer.{got, Refused}
use Rattle.job.specs.declared.Request.{Request}
use Rattle.book.specs.declared.Span.{Span}
use Rattle.book.specs.Read.{HeldList, PieceRead, PieceList, Records}
use Rattle.book.specs.Format.{request_read, held_resource, entry_read, entry_next, held_read, piece_read, piece_next, pieces_read, record_read, record_next}

-- The loop's whole invariant: v is what is seen of the definition's state after i turns of f from b₀.
pub record Judging {B W : Type 0} (f : ℕ → B → B) (view : B → W) (n : ℕ) (b₀ : B) (v : W) (i : ℕ) : Type 0 where
  pub within : i ≤ n
  pub so_far : v ≡ view (upto f i b₀)

module _ {B W : Type 0} {f : ℕ → B → B} {view : B → W} {n : ℕ} {b₀ : B} where
  pub judge-begin : Judging f view n b₀ (view b₀) 0
  unfolding upto
  judge-begin = record { within = omega arith; so_far = refl }

  pub judge-next : {v v' : W} {i : ℕ} → Judging f view n b₀ v i → i < n → ((b : B) → v ≡ view b → v' ≡ view (f i b)) → Judging f view n b₀ v' (i + 1)
  unfolding upto
  judge-next {i = i} j h turn = record { within = omega arith; so_far = rw add-one (turn (upto f i b₀) j.so_far) }

  pub judge-ended : {v : W} {i : ℕ} → Judging f view n b₀ v i → n ≤ i → v ≡ view (upto f n b₀)
  judge-ended {i = i} j h = let e : i ≡ n = omega arith in j.so_far ∙ ap (λ (k : ℕ). view (upto f k b₀)) e

-- ---- what is seen of each list, and one turn of its loop

-- a piece is judged by the reading, the last piece and its least start alone
abbrev pub pieces_seen : PieceList → Reading × Piece × ℕ
pieces_seen c = (c.reading, c.last, c.low)

module _ (s : List ℕ) (i : ℕ) where
  pub piece-turn : {reading : Reading} {last : Piece} {low : ℕ} {x : PieceRead} → x ≡ piece_read s low last reading → (c : PieceList) → (reading, last, low) ≡ pieces_seen c → (x.reading, x.piece, x.piece.start + 1) ≡ pieces_seen (piece_next s i c)
  unfolding piece_next
  piece-turn e c seen = ap (λ (x : PieceRead). (x.reading, x.piece, x.piece.start + 1)) (e ∙ ap (λ v. piece_read s v.2 v.1 v.0) seen)

-- o says what the reading e says: the last field that was read, or the refusal
abbrev pub Ends : Reading → Result FieldRead Refusal → Type 0
Ends e o = MatchResult o (λ f. e ≡ got f) (Refused e)

-- the request, and the last of its fields
abbrev pub RequestRead : List ℕ → ℕ → ℕ → ℕ → Result (Request × FieldRead) Refusal → Type 0
RequestRead s resources run at o =
    let x = request_read s resources run (stands_at at) in
    MatchResult o (λ q. (x.reading ≡ got q.1) × (x.request ≡ q.0)) (Refused x.reading)

-- a piece, and the last of its fields
abbrev pub PieceJudged : List ℕ → ℕ → Piece → ℕ → Result (Piece × FieldRead) Refusal → Type 0
PieceJudged s low last at o =
    let x = piece_read s low last (stands_at at) in
    MatchResult o (λ q. (x.reading ≡ got q.1) × (x.piece ≡ q.0)) (Refused x.reading)

-- the last piece of a list, and the last of its fields
abbrev pub PiecesJudged : List ℕ → ℕ → Result (Piece × FieldRead) Refusal → Type 0
PiecesJudged s at o =
    let x = pieces_read s (stands_at at) in
    MatchResult o (λ q. (x.reading ≡ got q.1) × (x.last ≡ q.0)) (Refused x.reading)

-- what the definition of such a reader leaves, refused or not: the reading, and who holds what
pub record Left (reading : Reading) (holders : List ℕ) (o : Reading) (h : List ℕ) : Type 0 where
  pub in_reading : o ≡ reading
  pub in_holders : h ≡ holders

-- what a reader of held lists leaves: the last field that was read and who holds what, or the refusal
abbrev pub Leaves : Reading → List ℕ → Result FieldRead Refusal → List ℕ → Type 0
Leaves e holders o h = MatchResult o (λ f. (e ≡ got f) × (h ≡ holders)) (Refused e)

abbrev pub EntryJudged : List ℕ → ℕ → ℕ → ℕ → ℕ → List ℕ → ℕ → Result FieldRead Refusal → List ℕ → Type 0
EntryJudged s job resources run rollback holders at = let x = entry_read s resources run rollback holders (stands_at at) in Leaves x.reading (set holders x.entry.resource job)

abbrev pub HeldJudged : List ℕ → ℕ → ℕ → ℕ → ℕ → List ℕ → ℕ → Result FieldRead Refusal → List ℕ → Type 0
HeldJudged s job resources run rollback holders at = let x = held_read s job resources run rollback holders (stands_at at) in Leaves x.reading x.holders

abbrev pub RecordJudged : List ℕ → ℕ → ℕ → List ℕ → ℕ → Result FieldRead Refusal → List ℕ → Type 0
RecordJudged s job resources holders at = let x = record_read s job resources holders (stands_at at) in Leaves x.reading x.holders

abbrev pub held_seen : HeldList → Reading × List ℕ
held_seen h = (h.reading, h.holders)

module _ (s : List ℕ) (job resources run rollback i : ℕ) where
  -- a turn of the definition, from any reading to any reading
  pub entry-turned : {reading o : Reading} {holders noted : List ℕ} → (let x = entry_read s resources run rollback holders reading in Left x.reading (set holders x.entry.resource job) o noted) → (h : HeldList) → (reading, holders) ≡ held_seen h → (o, noted) ≡ held_seen (entry_next s job resources run rollback i h)
  unfolding entry_next
  entry-turned j h seen =
      (λ k. (j.in_reading k, j.in_holders k))
      ∙ ap (λ v. let x = entry_read s resources run rollback v.1 v.0 in (x.reading, set v.1 x.entry.resource job)) seen

  pub entry-turn : {read o : FieldRead} {holders noted : List ℕ} → EntryJudged s job resources run rollback holders read.next (Ok o) noted → (h : HeldList) → (got read, holders) ≡ held_seen h → (got o, noted) ≡ held_seen (entry_next s job resources run rollback i h)
  unfolding entry_read held_resource field_of
  entry-turn j = entry-turned (record { in_reading = sym j.0; in_holders = j.1 })

-- the ends of the records so far, after where the first of them starts
abbrev pub ends_from : ℕ → List Span → List ℕ
ends_from first spans = first ∷ map (λ (x : Span). x.end) spans

abbrev pub records_seen : ℕ → Records → Reading × List ℕ × List ℕ
records_seen first b = (b.reading, b.holders, ends_from first b.spans)

ends_set : (l : List Span) (i start end : ℕ) → set (map (λ (x : Span). x.end) l) i end ≡ map (λ (x : Span). x.end) (set l i (record { start = start; end = end }))
ends_set [] i start end = refl
ends_set (x ∷ l) zero start end = refl
ends_set (x ∷ l) (suc i) start end = ap (λ t. x.end ∷ t) (ends_set l i start end)

module _ (s : List ℕ) (resources i first : ℕ) where
  pub record-turned : {reading o : Reading} {holders noted starts : List ℕ} → (let x = record_read s i resources holders reading in Left x.reading x.holders o noted) → (b : Records) → (reading, holders, starts) ≡ records_seen first b → (o, noted, set starts (i + 1) o.next) ≡ records_seen first (record_next s resources i b)
  unfolding record_next
  record-turned {starts = starts} j b seen = rw add-one
      ((λ k. (j.in_reading k, j.in_holders k, set starts (suc i) (j.in_reading k).next))
      ∙ ap (λ v. let x = record_read s i resources v.1 v.0 in (x.reading, x.holders, set v.2 (suc i) x.reading.next)) seen
      ∙ (λ k. let x = record_read s i resources b.holders b.reading in (x.reading, x.holders, first ∷ ends_set b.spans i b.reading.next x.reading.next k)))

  pub record-turn : {read o : FieldRead} {holders noted starts : List ℕ} → RecordJudged s i resources holders read.next (Ok o) noted → (b : Records) → (got read, holders, starts) ≡ records_seen first b → (got o, noted, set starts (i + 1) o.next) ≡ records_seen first (record_next s resources i b)
  unfolding record_read field_of
  record-turn j = record-turned (record { in_reading = sym j.0; in_holders = j.1 })
