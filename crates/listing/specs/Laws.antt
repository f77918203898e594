-- What follows from the definitions.
use Rattle.std.specs.Prelude.{◌≡◌, ℕ, ◌+◌, ◌/◌, ◌%◌, ◌^◌, ◌<◌, ◌≤◌, List, [], ◌∷◌, ◌++◌, decimal}
use Rattle.listing.specs.Listing.{IsListing}

pub record ListingLaws : Type 0 where
  -- a number below ten is one digit, from 48, the code of `0`; any other is the number without its last digit, and that digit
  pub one_digit : (n : ℕ) → n < 10 → decimal n ≡ (48 + n) ∷ []
  pub last_digit : (n : ℕ) → 10 ≤ n → n < 10 ^ 64 → decimal n ≡ decimal (n / 10) ++ (48 + n % 10) ∷ []
  -- a file has one listing, so it does not matter in which pieces its bytes came
  pub one_listing : (file a b : List ℕ) → IsListing file a → IsListing file b → a ≡ b
