-- Laws of ages, over any modulus: what an age is between its ends, and when it is above 0. Assumes nothing.
use Rattle.std.proofs.Common.{◌≡◌, ℕ, ◌+◌, ◌-◌, ◌/◌, ◌≤◌, ◌<◌, true, false, pos, ◌-ℤ◌, arith}
use Rattle.std.specs.Prelude.{int_lt}
use Rattle.std.proofs.lemmas.Int.{ints}
use Rattle.numbers.specs.Counting.{onward, age, older}
use Rattle.numbers.proofs.Laws.{onward_round, ahead-onward}

-- a distance short of the modulus, less the modulus, is not above 0
below : (d m : ℕ) → d < m → int_lt (pos 0) (pos d -ℤ pos m) ≡ false
below d m h = grind (arith, ints)

module _ (m : ℕ) (two : 2 ≤ m) (b : ℕ) where
  -- a poll up to half a round less one after the stamp: the age is the polls between
  pub age_after : (stamp poll : ℕ) → stamp ≤ poll → poll < stamp + m / 2 → age m (onward m b stamp) (onward m b poll) ≡ pos (poll - stamp)
  unfolding age
  age_after stamp poll l u =
      let e = ahead-onward m (omega arith) b stamp poll l (omega arith) in
      grind (arith, ints)

  -- a poll before the stamp, up to half a round: the age is less than 0 by the polls between
  pub age_before : (stamp poll : ℕ) → poll < stamp → stamp ≤ poll + (m - m / 2) → age m (onward m b stamp) (onward m b poll) ≡ pos (poll + m - stamp) -ℤ pos m
  unfolding age
  age_before stamp poll l u =
      let round = onward_round m (omega arith) b poll in
      let e = ahead-onward m (omega arith) b stamp (poll + m) (omega arith) (omega arith) in
      grind (arith, ints)

  pub older_yes : (stamp poll : ℕ) → stamp < poll → poll < stamp + m / 2 → older m (onward m b stamp) (onward m b poll) ≡ true
  unfolding older
  older_yes stamp poll l u =
      let e = age_after stamp poll (omega arith) u in
      grind (arith, ints)

  pub older_no : (stamp poll : ℕ) → poll ≤ stamp → stamp ≤ poll + (m - m / 2) → older m (onward m b stamp) (onward m b poll) ≡ false
  unfolding older
  older_no stamp poll l u = grind (arith, ints, age_before, age_after)
