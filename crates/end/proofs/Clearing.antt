-- One entry more whose message doesn't wait.
use Rattle.std.proofs.Common.{◌≡◌, ℕ, ◌+◌, ◌<◌, ◌++◌, List, map, length, take, drop, get_or, set, arith}
use Rattle.std.proofs.lemmas.List.Edits.{map_over_more}
use Rattle.std.proofs.lemmas.List.{get_or_default}
use Rattle.std.proofs.lemmas.Grind.{common_steps}
use Rattle.end.specs.Opening.{unmarked}
use Rattle.end.specs.declared.transmitter.Kept.{Kept}

pub clear_more : (xs ys : List Kept) (i : ℕ) (d : Kept) → i < length xs → ys ≡ map unmarked (take i xs) ++ drop i xs → set ys i (unmarked (get_or ys i d)) ≡ map unmarked (take (i + 1) xs) ++ drop (i + 1) xs
clear_more xs ys i d h e =
    let long : length ys ≡ length xs = rw e (grind (arith, common_steps)) in
    map_over_more unmarked xs ys i (get_or ys i d) h e (get_or_default ys i d (get_or ys i d) (omega arith))
