-- A kind of number, and what is counted in it, over the one way of counting.
use Rattle.std.specs.Prelude.{◌≡◌, ℕ, Bool, ◌+◌, ◌^◌, ◌<◌, ◌≤◌, nat_lt, if◌then◌else◌, Option, Some, None}
use Rattle.numbers.specs.Counting.{onward, ahead}

-- its modulus, the word inside a number of the kind, and the number that holds a word. A kind is a value, so that definitions of other crates can
-- name the one that they count in: `ahead_in seq_nos p q`.
pub record Kind (N : Type 0) : Type 0 where
  pub modulus : ℕ
  pub word : N → ℕ
  pub from_word : ℕ → N

-- numbers of the kind count modulo m, which a word holds twice, and a number is nothing but its word
pub record IsCounted {N : Type 0} (k : Kind N) (m : ℕ) : Type 0 where
  pub modulus_is : k.modulus ≡ m
  pub above_zero : 0 < m
  pub fits : m + m ≤ 2 ^ 32
  pub word_of : (n : ℕ) → k.word (k.from_word n) ≡ n
  pub of_word : (p : N) → k.from_word (k.word p) ≡ p

-- a number below the modulus, or none
abbrev pub new_in : {N : Type 0} → Kind N → ℕ → Option N
new_in k n = if nat_lt n k.modulus then Some (k.from_word n) else None

-- p is below the modulus
abbrev pub is_in_range : {N : Type 0} → Kind N → N → Bool
is_in_range k p = nat_lt (k.word p) k.modulus

-- the number d further on than p, and the number after p
abbrev pub onward_in : {N : Type 0} → Kind N → N → ℕ → N
onward_in k p d = k.from_word (onward k.modulus (k.word p) d)

abbrev pub next_in : {N : Type 0} → Kind N → N → N
next_in k p = onward_in k p 1

-- p is ahead of q by this
abbrev pub ahead_in : {N : Type 0} → Kind N → N → N → ℕ
ahead_in k p q = ahead k.modulus (k.word p) (k.word q)
