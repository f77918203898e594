-- THE FIRST ROUND TRIP of coding: where its encoder refuses nothing, what was written decodes to what the encoder was given, for every kind.
use Rattle.std.proofs.Common.{◌≡◌, ℕ, suc, ◌≤◌, ◌<◌, ◌⊎◌, inl, inr, lt-ltb, le-ltb, List, [], ◌∷◌, length, take, Bool, true, false, refl, arith, append_assoc, ltb-true}
use Rattle.std.specs.Prelude.{All, Some, None, nat_lt}
use Rattle.std.proofs.lemmas.List.{take_at}
use Rattle.std.proofs.lemmas.List.Sums.{AllPass-from_list_all}
use Rattle.std.proofs.lemmas.Bool.{cases_lt}
use Rattle.numbers.specs.Numbers.{modulus, seq_no, poll_no}
use Rattle.pdu.specs.Layout.{sd_bytes, poll_bytes, stat_bytes, ustat_bytes}
use Rattle.pdu.specs.Decoding.{decode_of, elements_of}
use Rattle.pdu.specs.Encoding.{all_below, refused_sd, refused_numbers}
use Rattle.pdu.specs.declared.refusal.Refusal.TheVariants.{LongMessage, Rules, NumberTooLarge}
use Rattle.pdu.specs.declared.decoding.Pdu.TheVariants as Pdu
use Rattle.pdu.proofs.Decoded.{decode-sd, decode-poll, decode-stat, decode-ustat, stat_elements}

-- information stands first in an SD
information_first : (s : ℕ) (information : List ℕ) → take (length information) (sd_bytes s information) ≡ information
unfolding sd_bytes
information_first s information = rw append_assoc (take_at information _ (length information) refl)

numbers_below : (ns : List ℕ) → refused_numbers ns ≡ None → All (λ n. n < modulus) ns
numbers_below ns e = go (all_below ns) refl
  where
    go : (b : Bool) → all_below ns ≡ b → All (λ n. n < modulus) ns
    go true f = λ i d h. ltb-true _ modulus (AllPass-from_list_all (λ n. nat_lt n modulus) ns f i d h)
    go false f = let no : Some NumberTooLarge ≡ None = rw f at e in absurd cc

pub encoded_sd : (k s : ℕ) (information : List ℕ) → refused_sd k s information ≡ None → (decode_of k (sd_bytes s information) ≡ Pdu.Sd (record { s = seq_no s; length = length information })) × (take (length information) (sd_bytes s information) ≡ information)
encoded_sd k s information e = go (cases_lt 4096 k) (cases_lt s modulus) (cases_lt k (length information))
  where
    go : ((4096 < k) ⊎ (k ≤ 4096)) → ((s < modulus) ⊎ (modulus ≤ s)) → ((k < length information) ⊎ (length information ≤ k)) → (decode_of k (sd_bytes s information) ≡ Pdu.Sd (record { s = seq_no s; length = length information })) × (take (length information) (sd_bytes s information) ≡ information)
    go (inr a) (inl b) (inr c) = (decode-sd k s information a b c, information_first s information)
    go (inl a) _ _ = let no : Some Rules ≡ None = rw (lt-ltb 4096 k a) at e in absurd cc
    go (inr a) (inr b) _ = let no : Some NumberTooLarge ≡ None = rw (le-ltb 4096 k a, le-ltb s modulus b) at e in absurd cc
    go (inr a) (inl b) (inl c) = let no : Some LongMessage ≡ None = rw (le-ltb 4096 k a, lt-ltb s modulus b, lt-ltb k (length information) c) at e in absurd cc

pub encoded_poll : (k ps s : ℕ) → k ≤ 4096 → refused_numbers (ps ∷ s ∷ []) ≡ None → decode_of k (poll_bytes ps s) ≡ Pdu.Poll (record { ps = poll_no ps; s = seq_no s })
encoded_poll k ps s hk e = let all = numbers_below (ps ∷ s ∷ []) e in decode-poll k ps s hk (all 0 0 (omega arith)) (all 1 0 (omega arith))

pub encoded_stat : (k ps mr r : ℕ) (es : List ℕ) → k ≤ 4096 → refused_numbers (ps ∷ mr ∷ r ∷ es) ≡ None → (decode_of k (stat_bytes ps mr r es) ≡ Pdu.Stat (record { ps = poll_no ps; mr = seq_no mr; r = seq_no r; count = length es })) × (elements_of (stat_bytes ps mr r es) ≡ es)
encoded_stat k ps mr r es hk e =
    let all = numbers_below (ps ∷ mr ∷ r ∷ es) e in
    (decode-stat k ps mr r es hk (all 0 0 (omega arith)) (all 1 0 (omega arith)) (all 2 0 (omega arith)), stat_elements ps mr r es (λ i d h. all (suc (suc (suc i))) d (omega arith)))

pub encoded_ustat : (k first second mr r : ℕ) → k ≤ 4096 → refused_numbers (first ∷ second ∷ mr ∷ r ∷ []) ≡ None → decode_of k (ustat_bytes first second mr r) ≡ Pdu.Ustat (record { first = seq_no first; second = seq_no second; mr = seq_no mr; r = seq_no r })
encoded_ustat k first second mr r hk e =
    let all = numbers_below (first ∷ second ∷ mr ∷ r ∷ []) e in
    decode-ustat k first second mr r hk (all 0 0 (omega arith)) (all 1 0 (omega arith)) (all 2 0 (omega arith)) (all 3 0 (omega arith))
