-- The laws of the listing.
use Rattle.std.proofs.Common.{◌≡◌, ℕ, Bool, true, false, List, [], drop, sym, ◌∙◌}
use Rattle.std.specs.Prelude.{codes, MatchBool}
use Rattle.std.proofs.lemmas.Fmt.{decimal_digit, decimal_step_wide}
use Rattle.listing.specs.Line.{line}
use Rattle.listing.specs.Listing.{is_version_1, IsListingOfRecords}
use Rattle.listing.specs.Laws.{ListingLaws}

one_of_records : (bytes a b : List ℕ) → IsListingOfRecords bytes a → IsListingOfRecords bytes b → a ≡ b
one_of_records bytes a b h k =
    let same = h.only k.records k.rest k.split in
    h.lines ∙ rw (sym same.0, sym same.1) (sym k.lines)

-- the cases of the version
one_by : (t : Bool) (bytes a b only : List ℕ) → MatchBool t (IsListingOfRecords bytes a) (a ≡ only) → MatchBool t (IsListingOfRecords bytes b) (b ≡ only) → a ≡ b
one_by true bytes a b only h k = one_of_records bytes a b h k
one_by false bytes a b only h k = h ∙ sym k

pub laws : ListingLaws
laws = record {
  one_digit = decimal_digit;
  last_digit = decimal_step_wide;
  one_listing = λ file a b h k. one_by (is_version_1 file) (drop 1 file) a b (line (codes "VERSION") []) h k;
}
