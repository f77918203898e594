-- What is listed, with one byte more.
use Rattle.std.proofs.Common.{◌≡◌, ℕ, ◌+◌, ◌<◌, ◌≤◌, Bool, true, false, eqb, List, [], ◌∷◌, ◌++◌, length, get_or, take, Option, Some, None, sym, refl, ap, ◌∙◌, subst, append_assoc, append-nil, arith, length-append}
use Rattle.std.specs.List.{flat_map}
use Rattle.std.specs.Option.{option_to_list}
use Rattle.std.proofs.lemmas.Bool.{eqb-true}
use Rattle.std.proofs.lemmas.List.{take_more, take_all}
use Rattle.std.proofs.lemmas.List.Concat.{flat_map-append}
use Rattle.listing.specs.Line.{line_of}
use Rattle.listing.specs.Records.{Splits, record_of, rest_of}
use Rattle.listing.specs.Listing.{is_version_1, HasLines, HasListed}
use Rattle.listing.specs.declared.listing.Listing.{Listing}

flat_map-push : (f : List ℕ → List ℕ) (rs : List (List ℕ)) (r : List ℕ) → flat_map f (rs ++ (r ∷ [])) ≡ flat_map f rs ++ f r
flat_map-push f rs r = flat_map-append f rs (r ∷ []) ∙ ap (λ (x : List ℕ). flat_map f rs ++ x) (append-nil (f r))

-- what a reader gives with one byte more, as its contract has it
abbrev pub Reads : List ℕ → List ℕ → List ℕ → List ℕ → Type 0
Reads bytes old next new = (records : List (List ℕ)) → Splits bytes records (rest_of old) → Splits next (records ++ option_to_list (record_of new)) (rest_of new)

module _ (bytes next : List ℕ) (old new : Listing) (reads : Reads bytes old.reader next new.reader) (before : List ℕ) (h : HasLines bytes old before) where
  -- a record is whole
  pub one_line_more : (pdu after : List ℕ) → record_of new.reader ≡ Some pdu → new.count ≡ old.count + 1 → after ≡ before ++ line_of pdu → HasLines next new after
  one_line_more pdu after e n t =
      let P : Option (List ℕ) → Type 0 = λ o. Splits next (h.records ++ option_to_list o) (rest_of new.reader) in
      record {
        records = h.records ++ (pdu ∷ []);
        split = subst P e (reads h.records h.split);
        lines = t ∙ ap (λ (x : List ℕ). x ++ line_of pdu) h.lines ∙ sym (flat_map-push line_of h.records pdu);
        count = omega (arith, n, h.count, length-append h.records (pdu ∷ []));
      }

  -- none is
  pub no_line_more : record_of new.reader ≡ None → new.count ≡ old.count → HasLines next new before
  no_line_more e n =
      let P : Option (List ℕ) → Type 0 = λ o. Splits next (h.records ++ option_to_list o) (rest_of new.reader) in
      let Q : List (List ℕ) → Type 0 = λ rs. Splits next rs (rest_of new.reader) in
      record {
        records = h.records;
        split = subst Q (append-nil h.records) (subst P e (reads h.records h.split));
        lines = h.lines;
        count = n ∙ h.count;
      }

-- one byte of a piece more
pub fed_more : (bytes piece : List ℕ) (i b : ℕ) → i < length piece → b ≡ get_or piece i 0 → (bytes ++ take i piece) ++ (b ∷ []) ≡ bytes ++ take (i + 1) piece
fed_more bytes piece i b h e = rw (take_more piece i 0 h, e) (append_assoc bytes (take i piece) (get_or piece i 0 ∷ []))

pub fed_all : (bytes piece : List ℕ) (i : ℕ) → length piece ≤ i → bytes ++ take i piece ≡ bytes ++ piece
fed_all bytes piece i h = rw (take_all i piece h) refl

-- no record lies in no bytes
no_records : (records : List (List ℕ)) (rest : List ℕ) → Splits [] records rest → records ≡ []
no_records [] rest h = refl
no_records (r ∷ records) rest h = absurd (omega (arith, ap length h.whole))

nothing_listed : (listing : Listing) (text : List ℕ) → HasLines [] listing text → text ≡ []
nothing_listed listing text h = h.lines ∙ ap (flat_map line_of) (no_records h.records _ h.split)

-- of a file of another version nothing is listed
pub other_version : (file : List ℕ) (listing : Listing) (text : List ℕ) → (listing.version ≡ Some 1 → ⊥) → HasListed file listing text → (is_version_1 file ≡ false) × (text ≡ [])
other_version [] listing text other h = (refl, nothing_listed listing text h.lines)
other_version (v ∷ file) listing text other h = by_version (eqb v 1) refl
  where
    by_version : (t : Bool) → eqb v 1 ≡ t → (is_version_1 (v ∷ file) ≡ false) × (text ≡ [])
    by_version true e = absurd (other (h.version ∙ ap Some (eqb-true v 1 e)))
    by_version false e = (e, nothing_listed listing text (rw e at h.lines))
