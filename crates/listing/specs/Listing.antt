-- The text for a file: "one version byte 1, then records".
use Rattle.std.specs.Prelude.{◌≡◌, ℕ, Bool, false, ◌==◌, if◌then◌else◌, List, [], ◌∷◌, ◌++◌, length, drop, codes, slice_get, MatchBool}
use Rattle.std.specs.List.{flat_map}
use Rattle.listing.specs.Line.{line, line_of}
use Rattle.listing.specs.Records.{Splits, rest_of}
use Rattle.listing.specs.declared.listing.Listing.{Listing}

abbrev pub is_version_1 : List ℕ → Bool
is_version_1 [] = false
is_version_1 (version ∷ bytes) = version == 1

-- "a record or its length cut short `CUT`"; "the last line is `END` and the count of whole records"
abbrev pub last_lines : List (List ℕ) → List ℕ → List ℕ
last_lines records rest = (if length rest == 0 then [] else line (codes "CUT") []) ++ line (codes "END") (length records ∷ [])

-- a line for each record that stands whole in these bytes, and the last lines; the bytes say in one way only which records they are
pub record IsListingOfRecords (bytes text : List ℕ) : Type 0 where
  pub records : List (List ℕ)
  pub rest : List ℕ
  pub split : Splits bytes records rest
  pub only : (others : List (List ℕ)) (other : List ℕ) → Splits bytes others other → (others ≡ records) × (other ≡ rest)
  pub lines : text ≡ flat_map line_of records ++ last_lines records rest

-- "Another version or empty input: only `VERSION`"
abbrev pub IsListing : List ℕ → List ℕ → Type 0
IsListing file text = MatchBool (is_version_1 file) (IsListingOfRecords (drop 1 file) text) (text ≡ line (codes "VERSION") [])

-- ---- a file that is not at its end

-- what is listed of these bytes: those behind the version byte 1
abbrev pub listed_part : List ℕ → List ℕ
listed_part bytes = if is_version_1 bytes then drop 1 bytes else []

-- of these bytes of records a line stands in the text for each whole record, and the listing holds their count and the rest
pub record HasLines (bytes : List ℕ) (listing : Listing) (text : List ℕ) : Type 0 where
  pub records : List (List ℕ)
  pub split : Splits bytes records (rest_of listing.reader)
  pub lines : text ≡ flat_map line_of records
  pub count : listing.count ≡ length records

-- these bytes have been fed, and this text has come out
pub record HasListed (bytes : List ℕ) (listing : Listing) (text : List ℕ) : Type 0 where
  pub version : listing.version ≡ slice_get bytes 0
  pub lines : HasLines (listed_part bytes) listing text
