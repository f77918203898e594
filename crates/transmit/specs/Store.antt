-- Changes of one entry of the store.
use Rattle.std.specs.Prelude.{ℕ, zero, suc, List, [], ◌∷◌}
use Rattle.end.specs.declared.transmitter.Kept.{Kept}

-- the list with element i changed
abbrev pub change_at : {X : Type 0} → (X → X) → ℕ → List X → List X
change_at f i [] = []
change_at f zero (x ∷ xs) = f x ∷ xs
change_at f (suc i) (x ∷ xs) = x ∷ change_at f i xs

abbrev pub with_length : ℕ → Kept → Kept
with_length n e = record e { length = n }
