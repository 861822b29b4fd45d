-- The loop that reckons a chain to its end: its invariant, begun, carried on and ended.
use Rattle.std.specs.Prelude.{◌≡◌, Bool, cond, List, ℕ, ◌+◌, ◌*◌, ◌<◌, ◌≤◌, ℤ, pos, nat_abs, ◌+ℤ◌, get_or, None, Some}
use Rattle.std.proofs.Math.Path.{refl, ap}
use Rattle.std.proofs.Common.{sym, subst, ◌∙◌, arith}
use Rattle.std.proofs.Math.Bool.{true, false}
use borrow.Author.Tests.{ltb-true, ltb-false}
use Rattle.std.proofs.Math.Dec.{ltb}
use Rattle.std.proofs.Math.IntN.{+ℤ_idr}
use Rattle.gus.specs.declared.Course.{Course}
use Rattle.gus.specs.View.{View}
use Rattle.gus.specs.Course.{span, whole, earned, onward, to_free, to_end, denser}
use Rattle.gus.specs.Choice.{reckon, preferred}
use Rattle.planner.specs.Bounds.{short, Small, small-more}
use Rattle.laws.specs.Placed.{Below, chain_in, chain-two, chain_next, chain-last, chain-none}
use Rattle.planner.specs.Asking.{Seeing, Earning, Along, Lasting}
use Rattle.planner.specs.Lost.{credited, lost-reckon, lost-by, inside_after, inside-after, back-lost, normal-lost, neither-lost}
use Rattle.planner.specs.Choosing.{undone_wins}
use Rattle.planner.specs.Turn.{span_at, span-short, earned-back, onward-some, credit-small, small-onward, small-to-free}

-- c is what the members before place k make, and from c the others make what all make from c₀
pub record Reckoning (v : View) (t : ℕ) (members : List ℕ) (from : ℕ) (c₀ c : Course) (k : ℕ) : Type 0 where
  pub within : k ≤ 32
  pub small : Small k c
  pub same : reckon v t (chain_in members k) c ≡ reckon v t (chain_in members from) c₀

module _ (v : View) (t : ℕ) (members : List ℕ) where
  -- the turn of the member at place k, which is job i
  pub reckon-turn : (k i : ℕ) (c : Course) → k < 32 → i ≡ get_or members k 0 → reckon v t (chain_in members k) c ≡ reckon v t (chain_in members (k + 1)) (onward v t i (v.rolling i) (span_at v members k (v.rolling i)) c)
  unfolding reckon to_free to_end
  reckon-turn k i c h p = by (ltb k 31) refl
    where
      by : (b : Bool) → ltb k 31 ≡ b → reckon v t (chain_in members k) c ≡ reckon v t (chain_in members (k + 1)) (onward v t i (v.rolling i) (cond b (span v (v.rolling i) (get_or members (k + 1) 0)) (whole v (v.rolling i) (get_or members k 0))) c)
      by true e =
          let l : k < 31 = ltb-true k 31 e in
          rw (p, chain-two members k l, chain_next members k l)
      by false e =
          let z : k ≡ 31 = omega (arith, ltb-false k 31 e) in
          rw (p, z, chain-last, chain-none)

  module _ (from : ℕ) (c₀ : Course) where
    reckoning-begin : from ≤ 32 → Small from c₀ → Reckoning v t members from c₀ c₀ from
    reckoning-begin h s = record { within = h; small = s; same = refl }

    module _ (time : ℕ) (gain : ℤ) (k : ℕ) (r : Reckoning v t members from c₀ (credited time gain) k) where
      -- the turn of the member at place k, which is job i and takes n
      module _ (s : Seeing v t) (b : Below 32 members) (i n : ℕ) (h : k < 32) (p : i ≡ get_or members k 0) (q : n ≡ span_at v members k (v.rolling i)) where
        pub earning : Earning t i (time + n)
        earning = record {
          planned = s.planned;
          job = omega (arith, b.below k);
          time_small = omega (arith, span-short v (short s.modest) members k (v.rolling i), r.small.time);
        }

        -- what it earns can be added
        pub reckoning-small : (z : ℤ) → Some z ≡ earned v i (v.rolling i) n (t + (time + n)) → (nat_abs gain ≤ 31 * 1000000) × (nat_abs z ≤ 1000000)
        reckoning-small z e = (omega (arith, r.small.gain), credit-small v s.modest i (v.rolling i) n (t + (time + n)) z e)

        pub reckoning-lasting : Lasting v t members k (time + n)
        reckoning-lasting = record { seeing = s; members_below = b; place = h; time_small = omega (arith, span-short v (short s.modest) members k (v.rolling i), r.small.time) }

        turn : reckon v t (chain_in members (k + 1)) (onward v t i (v.rolling i) n (credited time gain)) ≡ reckon v t (chain_in members from) c₀
        turn = rw q (sym (reckon-turn k i (credited time gain) h p) ∙ r.same)

        pub reckoning-next : (z sum : ℤ) → Some z ≡ earned v i (v.rolling i) n (t + (time + n)) → sum ≡ gain +ℤ z → Reckoning v t members from c₀ (credited (time + n) sum) (k + 1)
        reckoning-next z sum e f =
            let step : onward v t i (v.rolling i) n (credited time gain) ≡ credited (time + n) sum = sym (onward-some v t i (v.rolling i) n (credited time gain) z sum e f) in
            subst (λ (c : Course). Reckoning v t members from c₀ c (k + 1)) step (record {
              within = omega arith;
              small = rw q (small-more (omega arith) (small-onward v s.modest t i (v.rolling i) (span_at v members k (v.rolling i)) k (credited time gain) (span-short v (short s.modest) members k (v.rolling i)) r.small));
              same = turn;
            })

        -- by none among its credits the whole course is lost
        pub reckoning-lost : None ≡ earned v i (v.rolling i) n (t + (time + n)) → (reckon v t (chain_in members from) c₀).inside ≡ false
        reckoning-lost e = sym (ap (λ (c : Course). c.inside) turn) ∙ lost-reckon v t (chain_in members (k + 1)) _ (lost-by v t i (v.rolling i) n (credited time gain) e)

      pub reckoning-inside : inside_after v t (chain_in members k) time ≡ (reckon v t (chain_in members from) c₀).inside
      reckoning-inside = inside-after v t (chain_in members k) time gain ∙ ap (λ (c : Course). c.inside) r.same

      pub reckoning-ended : 32 ≤ k → credited time gain ≡ reckon v t (chain_in members from) c₀
      unfolding reckon
      reckoning-ended h =
          let e : k ≡ 32 = omega (arith, r.within) in
          rw (e, chain-none) at r.same

  -- the two courses of the job at place k: it runs, or it rolls back
  module _ (k : ℕ) (c : Course) (a : Along v t members k c) (h : k < 31) where
    abbrev pub course : Bool → Course
    course b = to_free v t (get_or members k 0) (get_or members (k + 1) 0) b c

    module _ (inside : c.inside ≡ true) where
      so_far : credited c.time c.gain ≡ c
      so_far = λ d. record { time = c.time; gain = c.gain; inside = sym inside d }

      pub undone-first : ((i m : ℕ) → v.worth true i m ≡ Some (pos 0)) → (x n : ℕ) → x ≡ get_or members (k + 1) 0 → n ≡ v.undo x → credited (c.time + n) c.gain ≡ course true
      unfolding to_free
      undone-first z x n q e = rw (e, q)
          (onward-some v t (get_or members k 0) true (v.undo (get_or members (k + 1) 0)) (credited c.time c.gain) (pos 0) c.gain (earned-back v z (get_or members k 0) (v.undo (get_or members (k + 1) 0)) _) (sym (+ℤ_idr c.gain))
          ∙ ap (onward v t (get_or members k 0) true (v.undo (get_or members (k + 1) 0))) so_far)

      module _ (i x n : ℕ) (p : i ≡ get_or members k 0) (q : x ≡ get_or members (k + 1) 0) (e : n ≡ v.hold x) where
        ran : onward v t i false n (credited c.time c.gain) ≡ course false
        unfolding to_free
        ran = rw (e, p, q) (ap (onward v t (get_or members k 0) false (v.hold (get_or members (k + 1) 0))) so_far)

        pub run-first : (z gain : ℤ) → Some z ≡ earned v i false n (t + (c.time + n)) → gain ≡ c.gain +ℤ z → credited (c.time + n) gain ≡ course false
        run-first z gain w g = onward-some v t i false n (credited c.time c.gain) z gain w g ∙ ran

        pub run-lost : None ≡ earned v i false n (t + (c.time + n)) → (reckon v t (chain_in members (k + 1)) (course false)).inside ≡ false
        run-lost w = lost-reckon v t (chain_in members (k + 1)) (course false) (sym (ap (λ (d : Course). d.inside) ran) ∙ lost-by v t i false n (credited c.time c.gain) w)

    -- where the loop begins, in either course
    pub begins : (b : Bool) (d : Course) → d ≡ course b → Reckoning v t members (k + 1) d d (k + 1)
    begins b d q = reckoning-begin (k + 1) d (omega arith) (rw q (small-more (omega arith) (small-to-free v a.seeing.modest t _ _ b k c a.small)))

    -- the choice, by how the two courses end
    module _ (normal undone : Course) (e : normal ≡ course false) (u : undone ≡ course true) where
      abbrev ends : Course → Course
      ends d = reckon v t (chain_in members (k + 1)) d

      abbrev wins : Bool
      wins = undone_wins v t (get_or members k 0) (get_or members (k + 1) 0) (chain_in members (k + 1)) c

      wins-by : preferred (ends undone) (ends normal) ≡ wins
      unfolding undone_wins
      wins-by = λ d. preferred (ends (u d)) (ends (e d))

      pub wins-undone-lost : (ends undone).inside ≡ false → false ≡ wins
      wins-undone-lost q = back-lost (ends undone) (ends normal) q ∙ wins-by

      pub wins-normal-lost : {r : Bool} → r ≡ (ends undone).inside → (ends normal).inside ≡ false → r ≡ wins
      wins-normal-lost x q = x ∙ normal-lost (ends undone) (ends normal) q ∙ wins-by

      pub wins-denser : {b n : Course} → b ≡ ends undone → n ≡ ends normal → b.inside ≡ true → n.inside ≡ true → denser b n ≡ wins
      wins-denser {b} {n} x y f g = neither-lost b n f g ∙ (λ d. preferred (x d) (y d)) ∙ wins-by
