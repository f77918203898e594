-- Bytes split into records and a rest in one way.
use Rattle.std.proofs.Common.{◌≡◌, ℕ, ◌/◌, ◌%◌, List, [], ◌∷◌, ◌++◌, length, get_or, take, drop, refl, sym, ap, ◌∙◌, append_assoc, arith, length-append}
use Rattle.std.specs.List.{flat_map}
use Rattle.std.proofs.lemmas.List.{take_at, drop_at}
use Rattle.listing.specs.Records.{framed, IsPartial, Splits}

-- what begins with a record is not less than one
whole_first : (r more : List ℕ) → IsPartial (framed r ++ more) → ⊥
whole_first r more h = omega (arith, length-append r more)

same_front : (r s xs ys : List ℕ) → length r ≡ length s → r ++ xs ≡ s ++ ys → (r ≡ s) × (xs ≡ ys)
same_front r s xs ys n e =
    (sym (take_at r xs (length r) refl) ∙ ap (take (length r)) e ∙ take_at s ys (length r) (sym n), sym (drop_at r xs (length r) refl) ∙ ap (drop (length r)) e ∙ drop_at s ys (length r) (sym n))

-- the lengths agree, since their two bytes do
same_record : (r s xs ys : List ℕ) → framed r ++ xs ≡ framed s ++ ys → (r ≡ s) × (xs ≡ ys)
same_record r s xs ys e =
    let high : length r / 256 ≡ length s / 256 = ap (λ (l : List ℕ). get_or l 0 0) e in
    let low : length r % 256 ≡ length s % 256 = ap (λ (l : List ℕ). get_or l 1 0) e in
    same_front r s xs ys (omega arith) (ap (drop 2) e)

one_split : (xs ys : List (List ℕ)) (x y : List ℕ) → IsPartial x → IsPartial y → flat_map framed xs ++ x ≡ flat_map framed ys ++ y → (xs ≡ ys) × (x ≡ y)
one_split [] [] x y p q e = (refl, e)
one_split [] (s ∷ ys) x y p q e = absurd (whole_first s (flat_map framed ys ++ y) (rw (e ∙ append_assoc (framed s) (flat_map framed ys) y) at p))
one_split (r ∷ xs) [] x y p q e = absurd (whole_first r (flat_map framed xs ++ x) (rw (sym e ∙ append_assoc (framed r) (flat_map framed xs) x) at q))
one_split (r ∷ xs) (s ∷ ys) x y p q e =
    let first = same_record r s (flat_map framed xs ++ x) (flat_map framed ys ++ y) (sym (append_assoc (framed r) (flat_map framed xs) x) ∙ e ∙ append_assoc (framed s) (flat_map framed ys) y) in
    let others = one_split xs ys x y p q first.1 in
    (rw (first.0, others.0) refl, others.1)

pub one_reading : (bytes : List ℕ) (xs ys : List (List ℕ)) (x y : List ℕ) → Splits bytes xs x → Splits bytes ys y → (xs ≡ ys) × (x ≡ y)
one_reading bytes xs ys x y h k = one_split xs ys x y h.partial k.partial (sym h.whole ∙ k.whole)
