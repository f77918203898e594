-- What a run writes.
use Rattle.std.specs.Prelude.{ℕ, List, Option}
use Rattle.std.specs.Io.KnownBytes.{Appends}
use Rattle.listing.specs.Listing.{IsListing}

-- the writer holds the listing of the file behind what it held before
abbrev pub WritesListing : List ℕ → Option (List ℕ) → Option (List ℕ) → Type 0
WritesListing file old new = (text : List ℕ) × IsListing file text × Appends old new text
