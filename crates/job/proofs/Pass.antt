-- One pass over what a job holds: an entry more is changed.
use Rattle.std.proofs.Common.{ℕ, ◌≡◌, ◌+◌, ◌<◌, List, ◌++◌, map, take, drop, set, get_or, length, arith}
use Rattle.std.proofs.lemmas.Grind.{common_steps}
use Rattle.std.proofs.lemmas.List.{get_or_default}
use Rattle.std.proofs.lemmas.List.Edits.{map_over_more}
use Rattle.job.specs.declared.Held.{Held}
use Rattle.job.specs.Held.{free}

pub pass_more : (f : Held → Held) (xs ys : List Held) {i : ℕ} {h : Held} → i < length xs → ys ≡ map f (take i xs) ++ drop i xs → h ≡ f (get_or ys i free) → set ys i h ≡ map f (take (i + 1) xs) ++ drop (i + 1) xs
pass_more f xs ys {i} lt so_far e =
    let size : length ys ≡ length xs = grind (arith, common_steps) in
    rw e (map_over_more f xs ys i (get_or ys i free) lt so_far (get_or_default ys i _ _ (omega arith)))
