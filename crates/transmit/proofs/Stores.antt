-- A change of one entry is a write to its slot.
use Rattle.std.proofs.Common.{◌≡◌, ℕ, zero, suc, ◌<◌, List, [], ◌∷◌, length, get_or, set, sym, ap, refl, arith}
use Rattle.end.proofs.Rings.{entry_short}
use Rattle.end.proofs.Slots.{slot_room}
use Rattle.transmit.specs.Store.{change_at, with_length}
use Rattle.transmit.specs.Sending.{stamped}
use Rattle.numbers.specs.declared.poll.PollNo.{PollNo}
use Rattle.end.specs.declared.transmitter.Kept.{Kept}

pub change_at-set : {X : Type 0} (f : X → X) (i : ℕ) (xs : List X) (d : X) → i < length xs → change_at f i xs ≡ set xs i (f (get_or xs i d))
change_at-set f i [] d h = absurd (omega arith)
change_at-set f zero (x ∷ xs) d h = refl
change_at-set f (suc i) (x ∷ xs) d h = ap (λ ys. x ∷ ys) (change_at-set f i xs d (omega arith))

pub length_set : (n i : ℕ) (xs : List Kept) (d : Kept) → i < length xs → set xs i (with_length n (get_or xs i d)) ≡ change_at (with_length n) i xs
length_set n i xs d h = sym (change_at-set (with_length n) i xs d h)

pub stamp_set : (ps : PollNo) (i : ℕ) (xs : List Kept) (d : Kept) → i < length xs → set xs i (stamped ps (get_or xs i d)) ≡ change_at (stamped ps) i xs
stamp_set ps i xs d h = sym (change_at-set (stamped ps) i xs d h)

pub ruleset changes = (length_set, stamp_set)

pub ruleset room = slot_room

pub ruleset messages = (slot_room, entry_short)
