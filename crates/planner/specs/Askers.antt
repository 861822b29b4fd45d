-- Who asks for something, as a list that only shrinks: a request is never made, only granted or dropped. So after a part no other row has to be
-- looked at.
use Rattle.std.specs.Prelude.{◌≡◌, Bool, true, false, ◌≢◌, ltb, eqb, set}
use Rattle.std.proofs.Math.Path.{refl, sym, ap}
use Rattle.std.proofs.Common.{◌∙◌, inl, inr, lt-ltb, le-ltb, drop-cons, get_or-take}
use mathlib.Core.List.{List, [], ◌∷◌, ◌++◌, append-nil}
use Prim.Native.Nat.{ℕ, zero, suc, ◌+◌, ◌*◌, ◌<◌, ◌≤◌}
use Rattle.std.proofs.Math.Decide.{ℕ_discrete, dec_lt}
use Rattle.std.proofs.Math.Numerals.{add-one}
use native.Mathlib.Omega.{arith}
use Rattle.std.proofs.Math.ListN.{length, get_or, take, drop, length-set, drop_of_length-le}
use Rattle.std.proofs.Math.Seq.{append_snoc, length-take-le, take-suc-set, get_or-set_other}
use Rattle.laws.specs.Among.{Among}
use Rattle.laws.specs.Count.{upto}
use Rattle.job.specs.declared.Held.{Held}
use Rattle.job.specs.declared.Job.{Job}
use Rattle.job.specs.Held.{free}
use Rattle.gus.specs.Waits.{nobody}
use Rattle.planner.specs.Sheet.{asks_in}
use Rattle.planner.specs.Putting.{put, linked, mode_of, owned, relinked_at, relinked_row, reworked, turns, turn-asking, turn-none}
use Rattle.planner.specs.Row.{put_same, put-away}

-- numbers of jobs that rise, from m on
abbrev pub Rises : ℕ → List ℕ → Type 0
Rises m [] = Unit {0}
Rises m (i ∷ is) = (m ≤ i) × (i < 32) × Rises (suc i) is

-- those of a list that ask for something
unfoldable pub asking : List ℕ → List ℕ → List ℕ
asking sheet [] = []
asking sheet (i ∷ is) = elim (ltb (asks_in sheet i) 32) [ true ↦ i ∷ asking sheet is | false ↦ asking sheet is ]

-- the first count of these are jobs, each once
pub record Listed (count : ℕ) (askers : List ℕ) : Type 0 where
  pub size : length askers ≡ 32
  pub few : count ≤ 32
  pub rises : Rises 0 (take count askers)

-- and among them is whoever asks for something
pub record Askers (sheet : List ℕ) (count : ℕ) (askers : List ℕ) : Type 0 where
  pub listed : Listed count askers
  pub all : (i : ℕ) → i < 32 → asks_in sheet i < 32 → Among i (take count askers)

-- what keeping the sheet after a part of this job relies on; it has worked, so it asks for nothing
pub record Reworking (job : ℕ) (j : Job) (sheet : List ℕ) (count : ℕ) (askers : List ℕ) : Type 0 where
  pub below : job < 32
  pub size : length sheet ≡ 288
  pub none : 32 ≤ j.request.resource
  pub askers_are : Askers sheet count askers

-- what linking anew along the list leaves
pub record Relinked (job : ℕ) (held : List Held) (count : ℕ) (sheet₀ askers₀ sheet : List ℕ) (left : ℕ) (askers : List ℕ) : Type 0 where
  pub size : length askers ≡ 32
  pub few : left ≤ 32
  pub sheet_is : sheet ≡ turns (relinked_at job held) (take count askers₀) sheet₀
  pub askers_are : take left askers ≡ asking sheet₀ (take count askers₀)

-- ---- rising lists
rises-from : {a b : ℕ} (is : List ℕ) → b ≤ a → Rises a is → Rises b is
rises-from [] l r = r
rises-from (i ∷ is) l r = (omega (arith, r.0), r.1, r.2)

rises-above : {m i : ℕ} (is : List ℕ) → Rises m is → Among i is → m ≤ i
rises-above [] r a = absurd a
rises-above (k ∷ is) r (inl e) = omega (arith, r.0)
rises-above (k ∷ is) r (inr a) = omega (arith, r.0, rises-above is r.2 a)

rises-below : (m : ℕ) (is : List ℕ) (k : ℕ) → Rises m is → k < length is → get_or is k 0 < 32
rises-below m [] k r l = absurd (omega arith)
rises-below m (i ∷ is) zero r l = r.1
rises-below m (i ∷ is) (suc k) r l = rises-below (suc i) is k r.2 (omega arith)

pub listed_below : {count : ℕ} {askers : List ℕ} → Listed count askers → (k : ℕ) → k < count → get_or askers k 0 < 32
listed_below {count} {askers} h k l = omega (arith, get_or-take count askers k 0 l, rises-below 0 (take count askers) k h.rises (omega (arith, length-take-le count askers (omega (arith, h.size, h.few)))))

-- ---- those who ask, of a list
module _ (sheet : List ℕ) where
  one-asking : (i : ℕ) (is : List ℕ) → asks_in sheet i < 32 → asking sheet (i ∷ is) ≡ i ∷ asking sheet is
  unfolding asking
  one-asking i is l = rw (lt-ltb (asks_in sheet i) 32 l, asking)

  none-asking : (i : ℕ) (is : List ℕ) → 32 ≤ asks_in sheet i → asking sheet (i ∷ is) ≡ asking sheet is
  unfolding asking
  none-asking i is l = rw (le-ltb (asks_in sheet i) 32 l, asking)

  asking-rises : (m : ℕ) (is : List ℕ) → Rises m is → Rises m (asking sheet is)
  unfolding asking
  asking-rises m [] r = r
  asking-rises m (i ∷ is) r = elim (dec_lt (asks_in sheet i) 32) [
    | yes l ↦ rw (one-asking i is l) (r.0, r.1, asking-rises (suc i) is r.2)
    | no l ↦ rw (none-asking i is (omega arith)) (rises-from (asking sheet is) (omega (arith, r.0)) (asking-rises (suc i) is r.2))
  ]

  asking-among : (i : ℕ) (is : List ℕ) → Among i is → asks_in sheet i < 32 → Among i (asking sheet is)
  unfolding asking
  asking-among i [] a l = absurd a
  asking-among i (k ∷ is) (inl e) l = rw (one-asking k is (rw e at l)) (inl e)
  asking-among i (k ∷ is) (inr a) l = elim (dec_lt (asks_in sheet k) 32) [
    | yes h ↦ rw (one-asking k is h) (inr (asking-among i is a l))
    | no h ↦ rw (none-asking k is (omega arith)) (asking-among i is a l)
  ]

-- ---- linking changes no request
linked-asks : (a w h u : ℕ) (sheet : List ℕ) (i : ℕ) → asks_in (linked a w h u sheet) i ≡ asks_in sheet i
unfolding linked
linked-asks a w h u sheet i =
    get_or-set_other (put 2 a h (put 4 a w sheet)) (9 * a + 3) (9 * i + 8) u nobody (λ e. omega arith)
    ∙ get_or-set_other (put 4 a w sheet) (9 * a + 2) (9 * i + 8) h nobody (λ e. omega arith)
    ∙ get_or-set_other sheet (9 * a + 4) (9 * i + 8) w nobody (λ e. omega arith)

module _ (job : ℕ) (held : List Held) where
  abbrev f : ℕ → List ℕ → List ℕ
  f = relinked_at job held

  turn-asks : (a : ℕ) (sheet : List ℕ) (i : ℕ) → asks_in (relinked_at job held a sheet) i ≡ asks_in sheet i
  unfolding relinked_at relinked_row
  turn-asks a sheet i = by (ltb (asks_in sheet a) 32) (ltb 0 x.hold) (eqb (get_or sheet (9 * a + 4) 0) job)
    where
      x : Held
      x = get_or held (asks_in sheet a) free

      by : (b c d : Bool) → asks_in (elim b [
        | true ↦ elim c [ true ↦ linked a job x.hold x.rollback sheet | false ↦ elim d [ true ↦ linked a nobody 0 0 sheet | false ↦ sheet ] ]
        | false ↦ sheet
      ]) i ≡ asks_in sheet i
      by true true d = linked-asks a job x.hold x.rollback sheet i
      by true false true = linked-asks a nobody 0 0 sheet i
      by true false false = refl
      by false c d = refl

  upto-asks : (m : ℕ) (sheet : List ℕ) (i : ℕ) → asks_in (upto f m sheet) i ≡ asks_in sheet i
  unfolding upto
  upto-asks zero sheet i = refl
  upto-asks (suc m) sheet i = turn-asks m (upto f m sheet) i ∙ upto-asks m sheet i

  -- THE LIST WILL DO: a turn for each of a rising list that has whoever asks is a turn for every row
  module _ (sheet : List ℕ) where
    silent : (m : ℕ) → 32 ≤ asks_in sheet m → upto f (suc m) sheet ≡ upto f m sheet
    unfolding upto
    silent m l = turn-none job held m (upto f m sheet) refl (omega (arith, upto-asks m sheet m))

    all-turns : (d m : ℕ) (is : List ℕ) → m + d ≡ 32 → Rises m is → ((i : ℕ) → m ≤ i → i < 32 → asks_in sheet i < 32 → Among i is) → turns f is (upto f m sheet) ≡ upto f 32 sheet
    unfolding turns upto
    all-turns zero m [] e r all = let q : m ≡ 32 = omega arith in ap (λ (k : ℕ). upto f k sheet) q
    all-turns zero m (i ∷ is) e r all = absurd (omega (arith, r.0, r.1))
    all-turns (suc d) m [] e r all = elim (dec_lt (asks_in sheet m) 32) [
      | yes l ↦ absurd (all m (omega arith) (omega arith) l)
      | no l ↦ sym (silent m (omega arith)) ∙ all-turns d (suc m) [] (omega arith) r (λ i a b c. all i (omega arith) b c)
    ]
    all-turns (suc d) m (i ∷ is) e r all = elim (ℕ_discrete i m) [
      | yes q ↦ rw q (all-turns d (suc m) is (omega arith) (rw q at r.2) (λ k a b c. rest k a q (all k (omega arith) b c)))
      | no ne ↦ elim (dec_lt (asks_in sheet m) 32) [
        | yes l ↦ absurd (first ne (all m (omega arith) (omega arith) l))
        | no l ↦
            ap (turns f (i ∷ is)) (sym (silent m (omega arith)))
            ∙ all-turns d (suc m) (i ∷ is) (omega arith) (omega (arith, r.0), r.1, r.2) (λ k a b c. all k (omega arith) b c)
      ]
    ]
      where
        rest : (k : ℕ) → suc m ≤ k → i ≡ m → Among k (i ∷ is) → Among k is
        rest k a q (inl e) = absurd (omega arith)
        rest k a q (inr x) = x

        first : i ≢ m → Among m (i ∷ is) → ⊥
        first ne (inl e) = ne (sym e)
        first ne (inr x) = absurd (omega (arith, r.0, rises-above is r.2 x))

  turns-ask : (is : List ℕ) (sheet : List ℕ) (i : ℕ) → asks_in (turns f is sheet) i ≡ asks_in sheet i
  unfolding turns
  turns-ask [] sheet i = refl
  turns-ask (k ∷ is) sheet i = turns-ask is (f k sheet) i ∙ turn-asks k sheet i

  -- The loop along the list: k of it have had their turn, and the first left of it are those of them who ask.
  pub record Relinking (count : ℕ) (sheet₀ askers₀ sheet askers : List ℕ) (left k : ℕ) : Type 0 where
    pub within : k ≤ count
    pub behind : left ≤ k
    pub size : length askers ≡ 32
    pub turned : turns f (drop k (take count askers₀)) sheet ≡ turns f (take count askers₀) sheet₀
    pub asks : (i : ℕ) → asks_in sheet i ≡ asks_in sheet₀ i
    pub kept : take left askers ++ asking sheet₀ (drop k (take count askers₀)) ≡ asking sheet₀ (take count askers₀)
    pub ahead : (m : ℕ) → k ≤ m → get_or askers m 0 ≡ get_or askers₀ m 0

  module _ {count : ℕ} {sheet₀ askers₀ : List ℕ} (h : Listed count askers₀) where
    pub relink-begin : Relinking count sheet₀ askers₀ sheet₀ askers₀ 0 0
    relink-begin = record { within = omega arith; behind = omega arith; size = h.size; turned = refl; asks = λ i. refl; kept = refl; ahead = λ m l. refl }

    module _ {sheet askers : List ℕ} {left k : ℕ} (inv : Relinking count sheet₀ askers₀ sheet askers left k) (l : k < count) where
      abbrev x : ℕ
      x = get_or askers k 0

      pub asker-below : get_or askers k 0 < 32
      asker-below = omega (arith, inv.ahead k (omega arith), listed_below h k l)

      next : drop k (take count askers₀) ≡ x ∷ drop (suc k) (take count askers₀)
      next = drop-cons (take count askers₀) k 0 (omega (arith, length-take-le count askers₀ (omega (arith, h.size, h.few)))) ∙ ap (λ (i : ℕ). i ∷ drop (suc k) (take count askers₀)) (get_or-take count askers₀ k 0 l ∙ sym (inv.ahead k (omega arith)))

      one_more : {sheet' : List ℕ} → sheet' ≡ f x sheet → asks_in sheet x < 32 → Relinking count sheet₀ askers₀ sheet' (set askers left x) (left + 1) (k + 1)
      unfolding turns
      one_more {sheet'} e asks =
          let list : List ℕ = drop (suc k) (take count askers₀) in
          let small : left < length askers = omega (arith, inv.size, inv.behind, h.few) in
          record {
            within = omega arith;
            behind = omega (arith, inv.behind);
            size = length-set askers left x ∙ inv.size;
            turned = rw (add-one k, e) (rw next at inv.turned);
            asks = λ i. ap (λ (t : List ℕ). asks_in t i) e ∙ turn-asks x sheet i ∙ inv.asks i;
            kept =
                rw (add-one left, add-one k, take-suc-set askers left x small, append_snoc (take left askers) x (asking sheet₀ list))
                (ap (λ (t : List ℕ). take left askers ++ t) (sym (ap (asking sheet₀) next ∙ one-asking sheet₀ x list (omega (arith, inv.asks x)))) ∙ inv.kept);
            ahead = λ m a. get_or-set_other askers left m x 0 (λ q. omega (arith, inv.behind)) ∙ inv.ahead m (omega arith);
          }

      struck : 32 ≤ asks_in sheet x → Relinking count sheet₀ askers₀ sheet askers left (k + 1)
      unfolding turns
      struck none =
          let list : List ℕ = drop (suc k) (take count askers₀) in
          record {
            within = omega arith;
            behind = omega (arith, inv.behind);
            size = inv.size;
            turned = rw add-one (ap (turns f list) (sym (turn-none job held x sheet refl none)) ∙ (rw next at inv.turned));
            asks = inv.asks;
            kept = rw add-one (ap (λ (t : List ℕ). take left askers ++ t) (sym (ap (asking sheet₀) next ∙ none-asking sheet₀ x list (omega (arith, inv.asks x)))) ∙ inv.kept);
            ahead = λ m a. inv.ahead m (omega arith);
          }

      -- as the code has them: the row of the asker, and what it asks for
      module _ {sheet' askers' : List ℕ} {left' row r : ℕ} (here : row ≡ get_or askers k 0) (asks : r ≡ asks_in sheet row) where
        pub relink-asking : r < 32 → sheet' ≡ relinked_row job (get_or held r free) row sheet → askers' ≡ set askers left (get_or askers k 0) → left' ≡ left + 1 → Relinking count sheet₀ askers₀ sheet' askers' left' (k + 1)
        relink-asking small e a b =
            let wanted : r ≡ asks_in sheet x = asks ∙ ap (asks_in sheet) here in
            rw (a, b) (one_more (e ∙ ap (λ (i : ℕ). relinked_row job (get_or held r free) i sheet) here ∙ sym (turn-asking job held x sheet wanted small)) (omega arith))

        pub relink-none : 32 ≤ r → sheet' ≡ sheet → askers' ≡ askers → left' ≡ left → Relinking count sheet₀ askers₀ sheet' askers' left' (k + 1)
        relink-none large e a b =
            let wanted : r ≡ asks_in sheet x = asks ∙ ap (asks_in sheet) here in
            rw (e, a, b) (struck (omega arith))

    pub relink-ended : {sheet askers : List ℕ} {left k : ℕ} → Relinking count sheet₀ askers₀ sheet askers left k → count ≤ k → Relinked job held count sheet₀ askers₀ sheet left askers
    unfolding turns asking
    relink-ended {sheet} {askers} {left} {k} inv l =
        let done : drop k (take count askers₀) ≡ [] = drop_of_length-le (take count askers₀) {i = k} (omega (arith, length-take-le count askers₀ (omega (arith, h.size, h.few)))) in
        record {
          size = inv.size;
          few = omega (arith, inv.behind, inv.within, h.few);
          sheet_is = rw done at inv.turned;
          askers_are = sym (append-nil (take left askers)) ∙ (rw done at inv.kept);
        }

-- what the code leaves is the sheet after the part, and the list of who still asks
module _ {job : ℕ} {j : Job} {sheet : List ℕ} {count : ℕ} {askers : List ℕ} (w : Reworking job j sheet count askers) {sheet₁ : List ℕ} (e : sheet₁ ≡ owned job j.run j.rollback j.rolling j.request.resource sheet) where
  abbrev plain : List ℕ
  plain = put 5 job (mode_of j.rolling) (put 1 job j.rollback (put 0 job j.run sheet))

  own-asks : (i : ℕ) → i ≡ job → 32 ≤ asks_in sheet₁ i
  unfolding owned
  own-asks i same =
      let own : asks_in (put 8 job j.request.resource plain) i ≡ j.request.resource = rw same (put_same plain nobody 8 job j.request.resource (simp length-set w.size) w.below (omega arith)) in
      omega (arith, w.none, ap (λ (t : List ℕ). asks_in t i) e ∙ linked-asks job nobody 0 0 (put 8 job j.request.resource plain) i ∙ own)

  other-asks : (i : ℕ) → i ≢ job → asks_in sheet₁ i ≡ asks_in sheet i
  unfolding owned
  other-asks i ne =
      ap (λ (t : List ℕ). asks_in t i) e
      ∙ linked-asks job nobody 0 0 (put 8 job j.request.resource plain) i
      ∙ put-away plain nobody 8 job j.request.resource 8 i ne (omega arith) (omega arith)
      ∙ put-away (put 1 job j.rollback (put 0 job j.run sheet)) nobody 5 job (mode_of j.rolling) 8 i ne (omega arith) (omega arith)
      ∙ put-away (put 0 job j.run sheet) nobody 1 job j.rollback 8 i ne (omega arith) (omega arith)
      ∙ put-away sheet nobody 0 job j.run 8 i ne (omega arith) (omega arith)

  still-all : (i : ℕ) → i < 32 → asks_in sheet₁ i < 32 → Among i (take count askers)
  still-all i l h = elim (ℕ_discrete i job) [
    | yes same ↦ absurd (omega (arith, own-asks i same))
    | no ne ↦ w.askers_are.all i l (omega (arith, other-asks i ne))
  ]

  module _ {sheet' : List ℕ} {left : ℕ} {askers' : List ℕ} (r : Relinked job j.held count sheet₁ askers sheet' left askers') where
    pub sheet-reworked : sheet' ≡ reworked job j sheet
    unfolding reworked upto
    sheet-reworked =
        r.sheet_is
        ∙ all-turns job j.held sheet₁ 32 0 (take count askers) refl w.askers_are.listed.rises (λ i a l h. still-all i l h)
        ∙ ap (upto (relinked_at job j.held) 32) e

    pub askers-left : Askers sheet' left askers'
    askers-left = record {
      listed = record { size = r.size; few = r.few; rises = rw r.askers_are (asking-rises sheet₁ 0 (take count askers) w.askers_are.listed.rises) };
      all = λ i l h.
          let before : asks_in sheet₁ i < 32 = omega (arith, ap (λ (t : List ℕ). asks_in t i) r.sheet_is ∙ turns-ask job j.held (take count askers) sheet₁ i) in
          rw r.askers_are (asking-among sheet₁ i (take count askers) (still-all i l before) before);
    }

-- ---- the first list: every number
unfoldable pub counted : ℕ → ℕ → List ℕ
counted m zero = []
counted m (suc n) = m ∷ counted (suc m) n

counted-take : (m n k : ℕ) → n ≤ k → take n (counted m k) ≡ counted m n
unfolding counted
counted-take m zero k l = refl
counted-take m (suc n) zero l = absurd (omega arith)
counted-take m (suc n) (suc k) l = ap (λ (t : List ℕ). m ∷ t) (counted-take (suc m) n k (omega arith))

counted-rises : (m n : ℕ) → m + n ≤ 32 → Rises m (counted m n)
unfolding counted
counted-rises m zero l = tt
counted-rises m (suc n) l = (omega arith, omega arith, counted-rises (suc m) n (omega arith))

counted-among : (m n i : ℕ) → m ≤ i → i < m + n → Among i (counted m n)
unfolding counted
counted-among m zero i a b = absurd (omega arith)
counted-among m (suc n) i a b = elim (ℕ_discrete i m) [ yes e ↦ inl e | no ne ↦ inr (counted-among (suc m) n i (omega arith) (omega arith)) ]

-- from the n-th row on nobody asks
pub first-askers : {sheet : List ℕ} {n : ℕ} → n ≤ 32 → ((i : ℕ) → n ≤ i → i < 32 → 32 ≤ asks_in sheet i) → Askers sheet n (counted 0 32)
unfolding counted
first-askers {sheet} {n} few past =
    let list : take n (counted 0 32) ≡ counted 0 n = counted-take 0 n 32 few in
    record {
      listed = record { size = refl; few = few; rises = rw list (counted-rises 0 n (omega arith)) };
      all = λ i l h. elim (dec_lt i n) [
        | yes k ↦ rw list (counted-among 0 n i (omega arith) (omega arith))
        | no k ↦ absurd (omega (arith, past i (omega arith) l))
      ];
    }
