-- The loop that asks whether a course stays inside its curves to the end of a chain: its invariant, begun, carried on and ended.
use Rattle.std.specs.Prelude.{◌≡◌, refl, true, false, List, ℕ, ◌+◌, ◌*◌, ◌<◌, ◌≤◌, ℤ, pos, ◌+ℤ◌, get_or, None, Some}
use Rattle.std.proofs.Common.{sym, ap, ◌∙◌, arith}
use Rattle.gus.specs.declared.Course.{Course}
use Rattle.gus.specs.View.{View}
use Rattle.gus.specs.Course.{earned, onward}
use Rattle.gus.specs.Choice.{reckon}
use Rattle.laws.specs.Placed.{Below, chain_in, chain-none}
use Rattle.planner.specs.Bounds.{short}
use Rattle.planner.specs.Asking.{Seeing, Earning, Lasting}
use Rattle.planner.specs.Turn.{span_at, span-short, onward-some}
use Rattle.planner.specs.Lost.{credited, lost-reckon, lost-by, inside_after, inside-after}
use Rattle.planner.specs.Reckoning.{reckon-turn}

module _ (v : View) (t : ℕ) (members : List ℕ) where
  -- so much time has passed before place k, and the members from there on stay inside if all do
  pub record Staying (from before time k : ℕ) : Type 0 where
    pub within : k ≤ 32
    pub small : time ≤ k * 65535
    pub same : inside_after v t (chain_in members k) time ≡ inside_after v t (chain_in members from) before

  pub staying-begin : {k before : ℕ} → Lasting v t members k before → Staying (k + 1) before before (k + 1)
  staying-begin l = record { within = omega (arith, l.place); small = omega (arith, l.time_small); same = refl }

  module _ {from before time k : ℕ} (r : Staying from before time k) where
    -- the turn of the member at place k, which is job i and takes n
    module _ (s : Seeing v t) (b : Below 32 members) (i n : ℕ) (h : k < 32) (p : i ≡ get_or members k 0) (q : n ≡ span_at v members k (v.rolling i)) where
      pub staying-earning : Earning t i (time + n)
      staying-earning = record {
        planned = s.planned;
        job = omega (arith, b.below k);
        time_small = omega (arith, span-short v (short s.modest) members k (v.rolling i), r.small);
      }

      turn : (reckon v t (chain_in members (k + 1)) (onward v t i (v.rolling i) n (credited time (pos 0)))).inside ≡ inside_after v t (chain_in members from) before
      unfolding inside_after
      turn = rw q (sym (ap (λ (c : Course). c.inside) (reckon-turn v t members k i (credited time (pos 0)) h p)) ∙ r.same)

      pub staying-next : (z : ℤ) → Some z ≡ earned v i (v.rolling i) n (t + (time + n)) → Staying from before (time + n) (k + 1)
      staying-next z e = record {
        within = omega arith;
        small = omega (arith, span-short v (short s.modest) members k (v.rolling i), r.small);
        same =
            inside-after v t (chain_in members (k + 1)) (time + n) (pos 0 +ℤ z)
            ∙ ap (λ (c : Course). (reckon v t (chain_in members (k + 1)) c).inside) (onward-some v t i (v.rolling i) n (credited time (pos 0)) z (pos 0 +ℤ z) e refl)
            ∙ turn;
      }

      pub staying-lost : None ≡ earned v i (v.rolling i) n (t + (time + n)) → false ≡ inside_after v t (chain_in members from) before
      staying-lost e = sym (lost-reckon v t (chain_in members (k + 1)) _ (lost-by v t i (v.rolling i) n (credited time (pos 0)) e)) ∙ turn

    pub staying-ended : 32 ≤ k → true ≡ inside_after v t (chain_in members from) before
    unfolding inside_after reckon
    staying-ended h =
        let e : k ≡ 32 = omega (arith, r.within) in
        rw (e, chain-none) at r.same
