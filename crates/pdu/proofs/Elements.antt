-- The list elements that a STAT's bytes hold: how many, and each.
use Rattle.std.proofs.Common.{◌≡◌, ℕ, ◌-◌, ◌*◌, ◌/◌, ◌<◌, ◌≤◌, List, length, ap, ◌∙◌, arith}
use Rattle.std.specs.Prelude.{Some, None, slice_get}
use Rattle.std.proofs.lemmas.Option.{slice_get-get_or, slice_get_past}
use Rattle.std.proofs.lemmas.List.FromFn.{length-map-range_with_len, get_or-map-range_with_len}
use Rattle.pdu.specs.Layout.{number_at}
use Rattle.pdu.specs.Decoding.{elements_of}

pub length-elements_of : (bs : List ℕ) → length (elements_of bs) ≡ (length bs - 12) / 4
length-elements_of bs = length-map-range_with_len (λ i. number_at bs (4 * i)) 0 ((length bs - 12) / 4)

pub element_at : (bs : List ℕ) (i : ℕ) → i < (length bs - 12) / 4 → slice_get (elements_of bs) i ≡ Some (number_at bs (4 * i))
element_at bs i h =
    slice_get-get_or (elements_of bs) i 0 (omega (arith, length-elements_of bs))
    ∙ ap Some (get_or-map-range_with_len (λ k. number_at bs (4 * k)) 0 ((length bs - 12) / 4) i i 0 h (omega arith))

pub element_past : (bs : List ℕ) (i : ℕ) → (length bs - 12) / 4 ≤ i → slice_get (elements_of bs) i ≡ None
element_past bs i h = slice_get_past (elements_of bs) i (omega (arith, length-elements_of bs))

pub ruleset elements = (element_at, element_past)
