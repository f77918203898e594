-- A ring of slots, where message i is in slot (first + i) mod size: the message in a slot, counted from the one in the slot `first`.
use Rattle.std.specs.Prelude.{ℕ, ◌-◌, nat_le, if◌then◌else◌}

abbrev pub place : ℕ → ℕ → ℕ → ℕ
place first size slot = if nat_le first slot then slot - first else size - (first - slot)
