-- The list elements of a STAT, one after another.
use Rattle.std.proofs.Common.{◌≡◌, ℕ, ◌+◌, ◌<◌, List, [], ◌∷◌, ◌++◌, length, get_or, take, Option, Some, None, ap, append_assoc}
use Rattle.std.specs.Prelude.{slice_get}
use Rattle.std.specs.Option.{option_map}
use Rattle.std.specs.List.{flat_map}
use Rattle.std.proofs.lemmas.List.Concat.{flat_map-append}
use Rattle.listing.specs.Line.{item}
use Rattle.std.proofs.lemmas.List.{take_more}
use Rattle.std.proofs.lemmas.Option.{slice_get-get_or}
use Rattle.numbers.specs.Numbers.{seq_no}
use Rattle.numbers.specs.declared.seq.SeqNo.{SeqNo}

-- the word in what it gave
abbrev word_of : Option SeqNo → ℕ
word_of (Some p) = p.0
word_of None = 0

-- the text with one element more, which `Stat::element` gave at i
pub text_more : (text before now es : List ℕ) (i n : ℕ) → i < length es → Some (seq_no n) ≡ option_map seq_no (slice_get es i) → before ≡ text ++ flat_map item (take i es) → now ≡ before ++ flat_map item (n ∷ []) → now ≡ text ++ flat_map item (take (i + 1) es)
text_more text before now es i n h e b s =
    let same : n ≡ get_or es i 0 = ap word_of (rw (slice_get-get_or es i 0 h) at e) in
    let more : flat_map item (take (i + 1) es) ≡ flat_map item (take i es) ++ flat_map item (n ∷ []) = rw (take_more es i 0 h, same) (flat_map-append item (take i es) (get_or es i 0 ∷ [])) in
    rw (more, s, b) (append_assoc text (flat_map item (take i es)) (flat_map item (n ∷ [])))

-- it gives one at each index below the count
pub no_element : (es : List ℕ) (i : ℕ) → i < length es → None ≡ option_map seq_no (slice_get es i) → ⊥
no_element es i h e = let f : None ≡ Some (seq_no (get_or es i 0)) = rw (slice_get-get_or es i 0 h) at e in cc
