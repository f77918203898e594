-- The last lines, at the end of a file.
use Rattle.std.proofs.Common.{◌≡◌, ℕ, Bool, true, false, cond, eqb, List, [], ◌∷◌, ◌++◌, length, Option, Some, None, refl, sym, ap, ◌∙◌, subst, append_assoc, append-nil}
use Rattle.std.specs.Prelude.{codes, not}
use Rattle.std.specs.List.{flat_map}
use Rattle.std.specs.Option.{option_eq}
use Rattle.std.proofs.lemmas.Bool.{eqb-true}
use Rattle.listing.specs.Line.{line, line_of}
use Rattle.listing.specs.Records.{rest_of}
use Rattle.listing.specs.Listing.{HasLines, HasListed, IsListing, IsListingOfRecords}
use Rattle.listing.specs.declared.listing.Listing.{Listing}
use Rattle.listing.proofs.Listed.{other_version}
use Rattle.listing.proofs.Readings.{one_reading}

-- what `!=` says where it is false, and where it is true
same_version : (v : Option ℕ) → not (option_eq eqb v (Some 1)) ≡ false → v ≡ Some 1
same_version None e = absurd (let f : true ≡ false = e in cc)
same_version (Some v) e = ap Some (eqb-true v 1 (tested (eqb v 1) e))
  where
    tested : (b : Bool) → not b ≡ false → b ≡ true
    tested true h = refl
    tested false h = cc

other : (v : Option ℕ) → not (option_eq eqb v (Some 1)) ≡ true → v ≡ Some 1 → ⊥
other v t is = let f : not (option_eq eqb (Some 1) (Some 1)) ≡ true = rw is at t in cc

begins_with_1 : (file : List ℕ) (listing : Listing) (text : List ℕ) → HasListed file listing text → listing.version ≡ Some 1 → (bytes : List ℕ) × (file ≡ 1 ∷ bytes)
begins_with_1 [] listing text h e = absurd (let f : None ≡ Some 1 = sym h.version ∙ e in cc)
begins_with_1 (v ∷ bytes) listing text h e = (bytes, let f : Some v ≡ Some 1 = sym h.version ∙ e in cc)

module _ (listing : Listing) (old : List ℕ) where
  pub only_version : (new : List ℕ) → not (option_eq eqb listing.version (Some 1)) ≡ true → new ≡ old ++ line (codes "VERSION") [] → (file printed : List ℕ) → HasListed file listing (printed ++ old) → IsListing file (printed ++ new)
  only_version new t e file printed h =
      let found = other_version file listing (printed ++ old) (other listing.version t) h in
      let text : printed ++ new ≡ line (codes "VERSION") [] =
      ap (λ (x : List ℕ). printed ++ x) e ∙ sym (append_assoc printed old (line (codes "VERSION") [])) ∙ ap (λ (x : List ℕ). x ++ line (codes "VERSION") []) found.1 in
      rw found.0 text

  -- "a record or its length cut short `CUT`"
  abbrev pub cut_line : List ℕ
  cut_line = cond (eqb (length (rest_of listing.reader)) 0) [] (line (codes "CUT") [])

  cut_by : (none : Bool) (mid : List ℕ) → not none ≡ true → mid ≡ old ++ line (codes "CUT") [] → mid ≡ old ++ cond none [] (line (codes "CUT") [])
  cut_by true mid t e = absurd (let f : false ≡ true = t in cc)
  cut_by false mid t e = e

  whole_by : (none : Bool) (mid : List ℕ) → not none ≡ false → mid ≡ old → mid ≡ old ++ cond none [] (line (codes "CUT") [])
  whole_by true mid t e = e ∙ sym (append-nil old)
  whole_by false mid t e = absurd (let f : true ≡ false = t in cc)

  pub cut : (mid : List ℕ) → not (eqb (length (rest_of listing.reader)) 0) ≡ true → mid ≡ old ++ line (codes "CUT") [] → mid ≡ old ++ cut_line
  cut mid t e = cut_by (eqb (length (rest_of listing.reader)) 0) mid t e

  pub not_cut : (mid : List ℕ) → not (eqb (length (rest_of listing.reader)) 0) ≡ false → mid ≡ old → mid ≡ old ++ cut_line
  not_cut mid t e = whole_by (eqb (length (rest_of listing.reader)) 0) mid t e

  last_text : (printed mid new end : List ℕ) → mid ≡ old ++ cut_line → new ≡ mid ++ end → printed ++ new ≡ (printed ++ old) ++ (cut_line ++ end)
  last_text printed mid new end m e = rw (e, m) (ap (λ (x : List ℕ). printed ++ x) (append_assoc old cut_line end) ∙ sym (append_assoc printed old (cut_line ++ end)))

  records_end : (bytes printed mid new : List ℕ) → mid ≡ old ++ cut_line → new ≡ mid ++ line (codes "END") (listing.count ∷ []) → HasLines bytes listing (printed ++ old) → IsListingOfRecords bytes (printed ++ new)
  records_end bytes printed mid new m e h = record {
    records = h.records;
    rest = rest_of listing.reader;
    split = h.split;
    only = λ others other s. one_reading bytes others h.records other (rest_of listing.reader) s h.split;
    lines = last_text printed mid new (line (codes "END") (listing.count ∷ [])) m e
        ∙ ap (λ (x : List ℕ). x ++ (cut_line ++ line (codes "END") (listing.count ∷ []))) h.lines
        ∙ ap (λ (n : ℕ). flat_map line_of h.records ++ (cut_line ++ line (codes "END") (n ∷ []))) h.count;
  }

  pub last_lines_added : (mid new : List ℕ) → not (option_eq eqb listing.version (Some 1)) ≡ false → mid ≡ old ++ cut_line → new ≡ mid ++ line (codes "END") (listing.count ∷ []) → (file printed : List ℕ) → HasListed file listing (printed ++ old) → IsListing file (printed ++ new)
  last_lines_added mid new t m e file printed h =
      let one = begins_with_1 file listing (printed ++ old) h (same_version listing.version t) in
      let P : List ℕ → Type 0 = λ f. HasListed f listing (printed ++ old) → IsListing f (printed ++ new) in
      subst P (sym one.1) (λ k. records_end one.0 printed mid new m e k.lines) h
