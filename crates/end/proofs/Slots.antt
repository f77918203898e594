-- Slots of a ring.
use Rattle.std.proofs.Common.{◌≡◌, ℕ, ◌+◌, ◌-◌, ◌*◌, ◌%◌, ◌^◌, ◌<◌, ◌≤◌, sym, ap, refl, ◌∙◌, arith, mod-eq_of_lt, mul-le-mul_right, add-one, suc-mul}
use Rattle.std.proofs.lemmas.Nat.{mul-le}
use Rattle.std.proofs.Math.Nat.{add-mod_right}
use Rattle.numbers.specs.Counting.{onward}

-- the slot without a division: once past the end it begins anew
pub slot_below : (size first i : ℕ) → first + i < size → first + i ≡ onward size first i
unfolding onward
slot_below size first i h = sym (mod-eq_of_lt h)

pub slot_past : (size first i : ℕ) → size ≤ first + i → first < size → i ≤ size → first + i - size ≡ onward size first i
unfolding onward
slot_past size first i h k l =
    let again : first + i - size + size ≡ first + i = omega arith in
    sym (mod-eq_of_lt (omega arith)) ∙ sym (add-mod_right (first + i - size) size) ∙ ap (λ (x : ℕ). x % size) again

-- a message of at most k bytes lies within its slot, and a slot within the store
pub slot_room : (slot size k n long : ℕ) → slot < size → size ≤ 1024 → k ≤ 4096 → n ≤ k → size * k ≤ long → (slot * k + n ≤ long) × (slot * k < 2 ^ 64)
slot_room slot size k n long a b c d e =
    let next : (slot + 1) * k ≤ size * k = mul-le-mul_right k (omega arith) in
    let one : (slot + 1) * k ≡ slot * k + k = rw (add-one, suc-mul) refl in
    let small : slot * k ≤ 1024 * 4096 = mul-le slot k 1024 4096 (omega arith) c in
    (omega arith, omega arith)

pub ruleset slot_code = (slot_below, slot_past)
