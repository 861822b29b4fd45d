-- What acceptance gives the planner, said of the book alone.
use Rattle.std.specs.Prelude.{ℕ, ◌<◌, ◌≤◌, ◌≡◌, refl, List, nat_abs, length, get_or}
use Rattle.std.proofs.Common.{not-suc-le-zero, arith, sym, ap, ◌∙◌, inl, inr}
use Rattle.laws.specs.Search.{lt-or-le}
use Rattle.laws.specs.Listed.{listed_at, listed-past, length-listed}
use Rattle.curve.specs.Worth.{worth_at, amount}
use Rattle.curve.proofs.Bound.{worth-within}
use Rattle.book.specs.declared.Entry.{Entry}
use Rattle.book.specs.Read.{Record, Book}
use Rattle.book.specs.Format.{no_entry, empty_record}
use Rattle.accepted.specs.Layout.{record_at, held_at, jobs_at, resources_at, job_place}
use Rattle.accepted.specs.Rules.{GoodRecord}
use Rattle.laws.specs.Inside.{inside}
use Rattle.laws.specs.Holders.{Before, earlier, beside, Named}
use Rattle.accepted.specs.Kept.{BookKept, held_of, holds_of}
use Rattle.accepted.specs.Exactly.{BookGot}

abbrev pub record_of : Book → ℕ → Record
record_of b i = get_or b.records i empty_record

abbrev pub entry_of : Book → ℕ → ℕ → Entry
entry_of b i k = get_or (record_of b i).held k no_entry

-- entry k of job i is there
pub record Stands (b : Book) (i k : ℕ) : Type 0 where
  pub job : i < b.jobs
  pub among : k < (record_of b i).holds

-- the holder of r is a job, and an entry of it is for r
pub record Holds (b : Book) (r : ℕ) : Type 0 where
  pub below : r < b.resources
  pub entry : ℕ
  pub stands : Stands b (get_or b.holders r 255) entry
  pub is : (entry_of b (get_or b.holders r 255) entry).resource ≡ r

pub record Good (b : Book) : Type 0 where
  pub now : b.now ≤ 2147483647
  pub jobs : b.jobs ≤ 32
  pub resources : b.resources ≤ 32
  pub records_size : length b.records ≡ 32
  pub holders_size : length b.holders ≡ 32
  pub each : (i : ℕ) → i < b.jobs → GoodRecord b.resources (record_of b i)
  pub past : (i : ℕ) → b.jobs ≤ i → record_of b i ≡ empty_record
  -- a resource stands in one held list, once
  pub one_list : (i k j m : ℕ) → Stands b i k → Stands b j m → (entry_of b i k).resource ≡ (entry_of b j m).resource → (i ≡ j) × (k ≡ m)
  -- the holders agree with the held lists
  pub holder : (i k : ℕ) → Stands b i k → get_or b.holders (entry_of b i k).resource 0 ≡ i
  pub held : (r : ℕ) → (get_or b.holders r 255 ≡ 255 → ⊥) → Holds b r
  pub free : (r : ℕ) → ((i k : ℕ) → Stands b i k → (entry_of b i k).resource ≡ r → ⊥) → get_or b.holders r 255 ≡ 255

-- "Curve values: -1,000,000 to 1,000,000": so is every worth
pub worth-small : {resources : ℕ} {x : Record} → GoodRecord resources x → (t : ℕ) → nat_abs (amount (worth_at x.curve t)) ≤ 1000000
worth-small g t = worth-within g.curve.allowed t

module _ (s : List ℕ) (b : Book) (k : BookKept s) (g : BookGot s b) where
  pub record_is : (i : ℕ) → i < jobs_at s → record_of b i ≡ record_at s (job_place s i)
  record_is i h = rw g.records (listed_at 32 empty_record (λ j. record_at s (job_place s j)) (jobs_at s) i k.header.jobs h)

  entry-is : (i m : ℕ) → i < jobs_at s → m < holds_of s i → entry_of b i m ≡ held_at s (job_place s i) m
  entry-is i m h l = rw (record_is i h) (listed_at 32 no_entry (held_at s (job_place s i)) (holds_of s i) m (k.each i h).good.holds l)

  stands-is : (i m : ℕ) → Stands b i m → (i < jobs_at s) × (m < holds_of s i)
  stands-is i m z =
      let h : i < jobs_at s = rw g.jobs at z.job in
      (h, rw (record_is i h) at z.among)

  is-stands : (i m : ℕ) → i < jobs_at s → m < holds_of s i → Stands b i m
  is-stands i m h l = record { job = rw g.jobs h; among = rw (record_is i h) l }

  resource-is : (i m : ℕ) → Stands b i m → (entry_of b i m).resource ≡ held_of s i m
  resource-is i m z = let y = stands-is i m z in ap (λ (e : Entry). e.resource) (entry-is i m y.0 y.1)

  below : (i m : ℕ) → i < jobs_at s → m < holds_of s i → held_of s i m < resources_at s
  below i m h l =
      let few = (k.each i h).good.holds in
      rw (listed_at 32 no_entry (held_at s (job_place s i)) (holds_of s i) m few l) at ((k.each i h).good.entry m l).below

  holder-is : (i m : ℕ) → i < jobs_at s → m < holds_of s i → get_or b.holders (held_of s i m) 255 ≡ i
  holder-is i m h l = g.agree.holder i m (earlier h l)

  -- who names r is an entry of a job of the book
  namer : (r : ℕ) → Named (holds_of s) (held_of s) (jobs_at s) 0 r → (i : ℕ) × (m : ℕ) × (i < jobs_at s) × (m < holds_of s i) × (held_of s i m ≡ r)
  namer r n = go n.before
    where
      go : Before (holds_of s) (jobs_at s) 0 n.job n.entry → (i : ℕ) × (m : ℕ) × (i < jobs_at s) × (m < holds_of s i) × (held_of s i m ≡ r)
      go (earlier h l) = (n.job, n.entry, h, l, n.is)
      go (beside e h) = absurd (not-suc-le-zero h)

  one_entry : (i m n : ℕ) → i < jobs_at s → m < holds_of s i → n < holds_of s i → held_of s i m ≡ held_of s i n → m ≡ n
  one_entry i m n h lm ln e = elim (lt-or-le m n) [
    | inl l ↦ absurd ((k.each i h).once n i m ln (beside refl l) e)
    | inr l ↦ elim (lt-or-le n m) [
      | inl q ↦ absurd ((k.each i h).once m i n lm (beside refl q) (sym e))
      | inr q ↦ omega arith
    ]
  ]

  pub good_book : Good b
  good_book = record {
    now = rw g.now k.header.now;
    jobs = rw g.jobs k.header.jobs;
    resources = rw g.resources k.header.resources;
    records_size = rw g.records (length-listed 32 empty_record (λ j. record_at s (job_place s j)) (jobs_at s));
    holders_size = g.agree.size;
    each = λ i h. let l : i < jobs_at s = rw g.jobs at h in rw (g.resources, record_is i l) (k.each i l).good;
    past = λ i h. let l : jobs_at s ≤ i = rw g.jobs at h in rw g.records (listed-past 32 empty_record (λ j. record_at s (job_place s j)) (jobs_at s) i l);
    one_list = λ i m j n x y e.
        let p = stands-is i m x in
        let q = stands-is j n y in
        let same : held_of s i m ≡ held_of s j n = sym (resource-is i m x) ∙ e ∙ resource-is j n y in
        let jobs : i ≡ j = sym (holder-is i m p.0 p.1) ∙ ap (λ (r : ℕ). get_or b.holders r 255) same ∙ holder-is j n q.0 q.1 in
        (jobs, one_entry j m n q.0 (rw jobs at p.1) q.1 (rw jobs at same));
    holder = λ i m x.
        let p = stands-is i m x in
        let low = below i m p.0 p.1 in
        let few = k.header.resources in
        let size = g.agree.size in
        let room : held_of s i m < length b.holders = omega arith in
        rw (resource-is i m x) (inside b.holders (held_of s i m) 0 255 room ∙ holder-is i m p.0 p.1);
    held = λ r some. elim (g.agree.only r) [
      | inl z ↦ absurd (some z)
      | inr n ↦
          let z = namer r n in
          let e : get_or b.holders r 255 ≡ z.0 = ap (λ (x : ℕ). get_or b.holders x 255) (sym z.4) ∙ holder-is z.0 z.1 z.2 z.3 in
          let x : Stands b z.0 z.1 = is-stands z.0 z.1 z.2 z.3 in
          let low = below z.0 z.1 z.2 z.3 in
          record {
            below = rw g.resources (omega (arith, z.4));
            entry = z.1;
            stands = rw e x;
            is = rw e (resource-is z.0 z.1 x ∙ z.4);
          }
    ];
    free = λ r none. elim (g.agree.only r) [
      | inl z ↦ z
      | inr n ↦ let z = namer r n in let x = is-stands z.0 z.1 z.2 z.3 in absurd (none z.0 z.1 x (resource-is z.0 z.1 x ∙ z.4))
    ];
  }
