-- The example of the rules: "A file of version 1, then P1, P4 and the bytes 41 42 prints: SD 5 2, POLL 1 2, BAD 1, END 3."
use Rattle.std.specs.Prelude.{◌≡◌, ℕ, List, [], ◌∷◌, ◌++◌, codes}
use Rattle.listing.specs.Line.{line_of}
use Rattle.listing.specs.Listing.{IsListing}

-- "P1 41 42 00 00 88 00 00 05"
abbrev pub p1 : List ℕ
p1 = 0x41 ∷ 0x42 ∷ 0 ∷ 0 ∷ 0x88 ∷ 0 ∷ 0 ∷ 0x05 ∷ []

-- "P4 00 00 00 01 0A 00 00 02"
abbrev pub p4 : List ℕ
p4 = 0 ∷ 0 ∷ 0 ∷ 0x01 ∷ 0x0a ∷ 0 ∷ 0 ∷ 0x02 ∷ []

abbrev pub short : List ℕ
short = 0x41 ∷ 0x42 ∷ []

abbrev pub example : List ℕ
example = (1 ∷ 0 ∷ 8 ∷ []) ++ p1 ++ (0 ∷ 8 ∷ []) ++ p4 ++ (0 ∷ 2 ∷ []) ++ short

pub record ListingCases : Type 0 where
  pub sd : line_of p1 ≡ codes "SD 5 2\n"
  pub poll : line_of p4 ≡ codes "POLL 1 2\n"
  pub bad : line_of short ≡ codes "BAD 1\n"
  pub file : IsListing example (codes "SD 5 2\nPOLL 1 2\nBAD 1\nEND 3\n")
