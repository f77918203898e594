-- How the code counts: what it computes from reduced parts is what the definitions say. (The library's `add-mod` and `mod-add-mod`, over the
-- definitions: without these two the check does not find them there.) Assumes nothing.
use Rattle.std.proofs.Common.{◌≡◌, ℕ, ◌+◌, ◌-◌, ◌%◌, ◌<◌, sym, arith}
use Rattle.std.proofs.Math.Nat.{mod-add-mod, add-mod}
use Rattle.numbers.specs.Counting.{onward, ahead}
use Rattle.numbers.specs.Numbers.{modulus}
use Rattle.numbers.proofs.Laws.{ahead-lt}

pub onward_code : (m p d : ℕ) → (p % m + d % m) % m ≡ onward m p d
unfolding onward
onward_code m p d = sym (add-mod p d m)

pub ahead_code : (m p q : ℕ) → (p % m + (m - q % m)) % m ≡ ahead m p q
unfolding ahead
ahead_code m p q = mod-add-mod p m (m - q % m)

-- a 24-bit distance is a number below 2^24, so that as an i32 it is the same number, and less 2^24 it still is one
pub ahead-lt_modulus : (p q : ℕ) → ahead modulus p q < modulus
ahead-lt_modulus = ahead-lt modulus (omega arith)

pub ruleset age_code = ahead-lt_modulus
