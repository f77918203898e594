-- One byte more: what a reader has read then.
use Rattle.std.proofs.Common.{◌≡◌, ℕ, ◌+◌, ◌/◌, ◌%◌, ◌<◌, ◌≤◌, Bool, true, false, cond, eqb, List, [], ◌∷◌, ◌++◌, length, get_or, drop, Some, None, refl, ap, ◌∙◌, append_assoc, append-nil, arith, zero, suc, length-append}
use Rattle.std.specs.List.{flat_map}
use Rattle.std.specs.Option.{option_to_list}
use Rattle.std.specs.Prelude.{All}
use Rattle.std.proofs.lemmas.Bool.{eqb-true, eqb-false}
use Rattle.std.proofs.lemmas.List.Concat.{flat_map-append}
use Rattle.std.proofs.lemmas.List.Elements.{All-nil, All-push, All-tail}
use Rattle.listing.specs.Records.{framed, record_len, IsPartial, IsRecord, Splits, record_of, rest_of}

-- a record behind its length, as it was
pub framed_drop : (q : List ℕ) → ((i : ℕ) → get_or q i 0 < 256) → length q ≡ 2 + record_len q → framed (drop 2 q) ≡ q
framed_drop [] fits e = absurd (omega arith)
framed_drop (h ∷ []) fits e = absurd (omega arith)
framed_drop (h ∷ l ∷ r) fits e =
    let high : length r / 256 ≡ h = omega (arith, fits 0, fits 1) in
    let low : length r % 256 ≡ l = omega (arith, fits 0, fits 1) in
    rw (high, low) refl

-- a byte more takes nothing from the length
pub record_len-push : (rest : List ℕ) (b : ℕ) → record_len rest ≤ record_len (rest ++ (b ∷ []))
record_len-push [] b = omega arith
record_len-push (h ∷ []) b = omega arith
record_len-push (h ∷ l ∷ r) b = omega arith

-- a byte more completes a record at most
pub length-push-le : (rest : List ℕ) (b : ℕ) → IsPartial rest → length (rest ++ (b ∷ [])) ≤ 2 + record_len (rest ++ (b ∷ []))
length-push-le rest b h = omega (arith, record_len-push rest b, length-append rest (b ∷ []))

-- its length is what two bytes hold
length-drop2 : (q : List ℕ) → ((i : ℕ) → get_or q i 0 < 256) → length q ≡ 2 + record_len q → IsRecord (drop 2 q)
length-drop2 [] fits e = absurd (omega arith)
length-drop2 (h ∷ []) fits e = absurd (omega arith)
length-drop2 (h ∷ l ∷ r) fits e = omega (arith, fits 0, fits 1)

module _ (bytes rest : List ℕ) (records : List (List ℕ)) (b : ℕ) where
  -- the cases of what is whole now
  next_by : (t : Bool) → ((i : ℕ) → get_or (rest ++ (b ∷ [])) i 0 < 256) → Splits bytes records rest → eqb (length (rest ++ (b ∷ []))) (2 + record_len (rest ++ (b ∷ []))) ≡ t
      → Splits (bytes ++ (b ∷ [])) (records ++ option_to_list (cond t (Some (drop 2 (rest ++ (b ∷ [])))) None)) (cond t [] (rest ++ (b ∷ [])))
  next_by true fits h e =
      let full : length (rest ++ (b ∷ [])) ≡ 2 + record_len (rest ++ (b ∷ [])) = eqb-true _ _ e in
      let last : framed (drop 2 (rest ++ (b ∷ []))) ≡ rest ++ (b ∷ []) = framed_drop (rest ++ (b ∷ [])) fits full in
      record {
        whole =
            let pdu = drop 2 (rest ++ (b ∷ [])) in
            let together : flat_map framed (records ++ (pdu ∷ [])) ≡ flat_map framed records ++ (rest ++ (b ∷ [])) =
            flat_map-append framed records (pdu ∷ []) ∙ ap (λ (x : List ℕ). flat_map framed records ++ x) (append-nil (framed pdu) ∙ last) in
            rw (append-nil (flat_map framed (records ++ (pdu ∷ []))), together, h.whole) (append_assoc (flat_map framed records) rest (b ∷ []));
        each = All-push IsRecord records (drop 2 (rest ++ (b ∷ []))) h.each (length-drop2 _ fits full);
        partial = omega arith;
      }
  next_by false fits h e = record {
    whole = rw (append-nil records, h.whole) (append_assoc (flat_map framed records) rest (b ∷ []));
    each = rw (append-nil records) h.each;
    partial = omega (arith, eqb-false _ _ e, length-push-le rest b h.partial);
  }

-- bytes, and 0 past their end
bytes_or_zero : (q : List ℕ) → All (λ b. b < 256) q → (i : ℕ) → get_or q i 0 < 256
bytes_or_zero [] all i = omega arith
bytes_or_zero (x ∷ q) all zero = all 0 0 (omega arith)
bytes_or_zero (x ∷ q) all (suc i) = bytes_or_zero q (All-tail (λ b. b < 256) x q all) i

-- what is kept, by whether a whole record was held
pub rest_of-whole : (old : List ℕ) → eqb (length old) (2 + record_len old) ≡ true → rest_of old ≡ []
rest_of-whole old h = rw h refl

pub rest_of-not_whole : (old : List ℕ) → eqb (length old) (2 + record_len old) ≡ false → rest_of old ≡ old
rest_of-not_whole old h = rw h refl

-- what is kept are bytes
kept : (t : Bool) (old : List ℕ) → All (λ b. b < 256) old → All (λ b. b < 256) (cond t [] old)
kept true old all = All-nil (λ b. b < 256)
kept false old all = all

-- what a reader that held old holds with one byte more
pub one_byte_more : (old kept q : List ℕ) (b : ℕ) → kept ≡ rest_of old → q ≡ kept ++ (b ∷ []) → b < 256 → All (λ x. x < 256) old → (bytes : List ℕ) (records : List (List ℕ)) → Splits bytes records (rest_of old) → Splits (bytes ++ (b ∷ [])) (records ++ option_to_list (record_of q)) (rest_of q)
one_byte_more old before q b k e fits all bytes records h =
    let here : q ≡ rest_of old ++ (b ∷ []) = rw k at e in
    let each = All-push (λ x. x < 256) (rest_of old) b (kept (eqb (length old) (2 + record_len old)) old all) fits in
    rw here (next_by bytes (rest_of old) records b (eqb (length (rest_of old ++ (b ∷ []))) (2 + record_len (rest_of old ++ (b ∷ [])))) (bytes_or_zero _ each) h refl)
