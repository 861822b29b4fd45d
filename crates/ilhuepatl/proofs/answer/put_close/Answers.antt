-- `ilhuepatl::answer::put_close`: the rounds, the total behind them, and the end behind that.
use Rattle.std.proofs.Common.{◌≡◌, ◌∙◌, ap, arith, List, ℕ, set, ◌∷◌, ◌++◌, ◌≤◌, length, length-set, length-append}
use Rattle.std.proofs.Math.Seq.{length-sets}
use Rattle.std.proofs.lemmas.List.Edits.{sets}
use borrow.Rule.Slice.PartMut.{put_mid}
use Rattle.ilhuepatl.specs.Answer.{four, bits}
use Rattle.ilhuepatl.specs.Length.{four-length}
use Rattle.laws.specs.Stores.{then-sets, over-sets}
use Rattle.ilhuepatl.proofs.Bytes.{four_bytes, signed_bytes}
use Rattle.ilhuepatl.proofs.Places.{copied}
use Rattle.ilhuepatl.proofs.answer.put_close.Goals as goal

-- the run in three stores
closed : (l : List ℕ) (rounds : ℕ) (total end : List ℕ) {t e : List ℕ} → 9 ≤ length l → length total ≡ 4 → length end ≡ 4 → t ≡ total → e ≡ end
    → put_mid 5 4 (put_mid 1 4 (set l 0 rounds) t) e ≡ sets l 0 (rounds ∷ total ++ end)
closed l rounds total end {t} {e} h n m p q =
    let first : put_mid 1 4 (set l 0 rounds) t ≡ sets l 0 (rounds ∷ total) = copied (set l 0 rounds) 4 total 1 (omega (arith, length-set l 0 rounds)) n p in
    copied (put_mid 1 4 (set l 0 rounds) t) 4 end 5 (omega (arith, ap length first, length-sets l 0 (rounds ∷ total))) m q
    ∙ ap (λ (x : List ℕ). sets x 5 end) first
    ∙ then-sets l 0 5 (rounds ∷ total) end (omega (arith, n))

pub returns : goal.returns
returns c =
    let a = c.args in
    let total = four (bits a.total) in
    let end = four a.end in
    let t : c.copy_from_slice.new.self ≡ total = c.copy_from_slice.ensures.after ∙ c.to_be_bytes.ensures ∙ signed_bytes a.total c.ranges.total in
    let e : c.copy_from_slice-2.new.self ≡ end = c.copy_from_slice-2.ensures.after ∙ c.to_be_bytes-2.ensures ∙ four_bytes a.end in
    closed a.out.now a.rounds total end (omega arith) (four-length (bits a.total)) (four-length a.end) t e
    ∙ over-sets (a.rounds ∷ total ++ end) a.out.now (omega (arith, length-append total end, four-length (bits a.total), four-length a.end))
