-- Numbers that are in range.
use Rattle.std.proofs.Common.{◌≡◌, ℕ, ◌<◌, [], ◌∷◌, refl, arith, lt-ltb}
use Rattle.std.specs.Prelude.{None}
use Rattle.numbers.specs.Counting.{onward}
use Rattle.numbers.specs.Numbers.{modulus}
use Rattle.numbers.proofs.Laws.{onward-lt}
use Rattle.pdu.specs.Encoding.{refused_numbers}

pub none_refused : (a b : ℕ) → a < modulus → b < modulus → refused_numbers (a ∷ b ∷ []) ≡ None
none_refused a b h k = rw (lt-ltb a modulus h, lt-ltb b modulus k) refl

pub onward_small : (p d : ℕ) → onward modulus p d < modulus
onward_small = onward-lt modulus (omega arith)
