-- What the encoders give: "Encoding: 17 for k, 19, 9, 8" (docs/RULES.md, "Answers").
use Rattle.std.specs.Prelude.{ℕ, Bool, not, nat_lt, if◌then◌else◌, List, ◌++◌, length, drop, Option, Some, None, Result, Ok, Err}
use Rattle.std.specs.List.{list_all}
use Rattle.numbers.specs.Numbers.{modulus}
use Rattle.pdu.specs.declared.refusal.Refusal.{Refusal}
use Rattle.pdu.specs.declared.refusal.Refusal.TheVariants.{NoRoom, LongMessage, Rules, NumberTooLarge}

abbrev pub all_below : List ℕ → Bool
all_below ns = list_all (λ n. nat_lt n modulus) ns

-- 19: "encoder given a number of 2^24 or more"
abbrev pub refused_numbers : List ℕ → Option Refusal
refused_numbers ns = if all_below ns then None else Some NumberTooLarge

abbrev pub refused_sd : ℕ → ℕ → List ℕ → Option Refusal
refused_sd k s information =
    if nat_lt 4096 k then Some Rules
    else if not (nat_lt s modulus) then Some NumberTooLarge
    else if nat_lt k (length information) then Some LongMessage
    else None

-- an encoder's answer: what refuses it; then 8, "the lent output is shorter than what this call would write"; or the count of bytes
abbrev pub encoded : Option Refusal → List ℕ → List ℕ → Result ℕ Refusal
encoded (Some e) bs out = Err e
encoded None bs out = if nat_lt (length out) (length bs) then Err NoRoom else Ok (length bs)

-- the lent output then: the bytes before those that it held, or on a refusal all that it held
abbrev pub written : Result ℕ Refusal → List ℕ → List ℕ → List ℕ
written (Ok n) bs out = bs ++ drop n out
written (Err e) bs out = out
