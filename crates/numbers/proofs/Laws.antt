-- Laws of counting modulo m, over any m: they serve the 24-bit numbers, a ring's slots and any other counter. Assumes nothing.
use Rattle.std.proofs.Common.{◌≡◌, ℕ, ◌+◌, ◌-◌, ◌%◌, ◌≤◌, ◌<◌, arith, mod-lt, mod-eq_of_lt, add_assoc}
use Rattle.std.proofs.Math.Nat.{mod-add-mod, add-mod-mod, add-mod_right}
use Rattle.numbers.specs.Counting.{onward, ahead}

module _ (m : ℕ) (some : 0 < m) where
  -- a number, and a distance, is below the modulus
  pub onward-lt : (p d : ℕ) → onward m p d < m
  unfolding onward
  onward-lt p d = grind (arith, mod-lt)

  pub ahead-lt : (p q : ℕ) → ahead m p q < m
  unfolding ahead
  ahead-lt p q = omega (arith, mod-lt)

  -- none further on is the number itself; so is once round
  pub onward-zero : (p : ℕ) → p < m → onward m p 0 ≡ p
  unfolding onward
  onward-zero p h = grind (arith, mod-eq_of_lt)

  pub onward_round : (p d : ℕ) → onward m p (d + m) ≡ onward m p d
  unfolding onward
  onward_round p d = rw (← add_assoc p d m) (add-mod_right (p + d) m)

  -- d further on, and then e
  pub onward-onward : (p d e : ℕ) → onward m (onward m p d) e ≡ onward m p (d + e)
  unfolding onward
  onward-onward p d e = simp (mod-add-mod, add_assoc)

  -- what is d further on than q is ahead of q by d
  pub ahead_by : (q d : ℕ) → q < m → d < m → ahead m (onward m q d) q ≡ d
  unfolding onward ahead
  ahead_by q d hq hd =
      let once_round : q + d + (m - q) ≡ d + m = omega arith in
      simp (mod-add-mod, mod-eq_of_lt hq, mod-eq_of_lt hd, once_round, add-mod_right)

  -- THE LAW of distances: of two numbers within one round of a base, the further is ahead of the nearer by the difference
  pub ahead-onward : (b x y : ℕ) → x ≤ y → y < x + m → ahead m (onward m b y) (onward m b x) ≡ y - x
  ahead-onward b x y l u =
      let between : x + (y - x) ≡ y = omega arith in
      cc (onward-onward b x (y - x), ahead_by (onward m b x) (y - x) (onward-lt b x) (omega arith))

  -- a number is found again from a base and its distance
  pub onward-ahead : (p q : ℕ) → p < m → q < m → onward m q (ahead m p q) ≡ p
  unfolding onward ahead
  onward-ahead p q hp hq =
      let once_round : q + (p + (m - q)) ≡ p + m = omega arith in
      simp (mod-eq_of_lt hq, mod-eq_of_lt hp, add-mod-mod, once_round, add-mod_right)

  -- a distance is 0 exactly for equal numbers
  pub ahead_self : (p : ℕ) → p < m → ahead m p p ≡ 0
  ahead_self p h = grind (arith, ahead_by p 0, onward-zero)

  pub ahead-zero : (p q : ℕ) → p < m → q < m → ahead m p q ≡ 0 → p ≡ q
  ahead-zero p q hp hq e = cc (onward-ahead p q hp hq, onward-zero q hq)

  -- moving on by d raises a distance by d, while it stays below the modulus
  pub ahead_more : (p q d : ℕ) → p < m → q < m → ahead m p q + d < m → ahead m (onward m p d) q ≡ ahead m p q + d
  ahead_more p q d hp hq h = cc (onward-ahead p q hp hq, onward-onward q (ahead m p q) d, ahead_by q (ahead m p q + d) hq h)

  -- two numbers near a base b are ordered as their distances from it: the one not nearer is ahead of the other by the difference
  pub ahead_between : (p q b : ℕ) → p < m → q < m → b < m → ahead m q b ≤ ahead m p b → ahead m p q ≡ ahead m p b - ahead m q b
  ahead_between p q b hp hq hb h = grind (arith, onward-ahead p b, onward-ahead q b, ahead-onward b (ahead m q b) (ahead m p b), ahead-lt p b)

  -- equal distances, equal numbers
  pub ahead_same : (p q b : ℕ) → p < m → q < m → b < m → ahead m p b ≡ ahead m q b → p ≡ q
  ahead_same p q b hp hq hb e = cc (onward-ahead p b hp hb, onward-ahead q b hq hb)

  -- within one round each has a number of its own
  pub onward_same : (p i j : ℕ) → i < m → j < m → onward m p i ≡ onward m p j → i ≡ j
  onward_same p i j h k e = grind (arith, ahead-onward p 0 i, ahead-onward p 0 j)

  -- AN UNBOUNDED COUNT and its residue: counting on, a distance, and that near counts with one residue are one
  pub residue-onward : (x d : ℕ) → onward m (x % m) d ≡ (x + d) % m
  unfolding onward
  residue-onward x d = mod-add-mod x m d

  pub residue_is : (x : ℕ) → x % m ≡ onward m 0 x
  unfolding onward
  residue_is x = grind arith

  pub residue-ahead : (x y : ℕ) → x ≤ y → y < x + m → ahead m (y % m) (x % m) ≡ y - x
  residue-ahead x y l u = grind (arith, residue_is, ahead-onward 0 x y)

  pub residue_same : (x y : ℕ) → x ≤ y → y < x + m → x % m ≡ y % m → x ≡ y
  residue_same x y l u e = grind (arith, residue-ahead)
