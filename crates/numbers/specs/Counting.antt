-- Counting modulo m, stated once over the modulus: 2^24 for the numbers of SDs and of polls, and a ring's size for its slots.
use Rattle.std.specs.Prelude.{Bool, if◌then◌else◌, ℕ, ◌+◌, ◌-◌, ◌%◌, ◌/◌, nat_lt, ℤ, pos, ◌-ℤ◌, int_lt}

-- the number d further on than p
unfoldable pub onward : ℕ → ℕ → ℕ → ℕ
onward m p d = (p + d) % m

-- "p is ahead of q by d" means d = (p − q) mod m
unfoldable pub ahead : ℕ → ℕ → ℕ → ℕ
ahead m p q = (p + (m - q % m)) % m

-- a distance d below m, read as a signed one from -m/2 to m/2 - 1: d itself below m/2, and d - m from there on
abbrev pub signed : ℕ → ℕ → ℤ
signed m d = if nat_lt d (m / 2) then pos d else pos d -ℤ pos m

-- the age of a stamp: a signed distance from the stamp to a poll number, modulo m
unfoldable pub age : ℕ → ℕ → ℕ → ℤ
age m stamp poll = signed m (ahead m poll stamp)

-- the age is above 0
unfoldable pub older : ℕ → ℕ → ℕ → Bool
older m stamp poll = int_lt (pos 0) (age m stamp poll)
