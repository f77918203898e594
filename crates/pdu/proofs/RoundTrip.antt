-- THE SECOND ROUND TRIP of coding: for every byte string and every k, what was decoded encodes to the same bytes exactly when its reserved and pad
-- bits are zero. Both sides are false of a byte string that is no PDU.
use Rattle.std.proofs.Common.{◌≡◌, ℕ, ◌+◌, ◌-◌, ◌*◌, ◌/◌, ◌%◌, ◌<◌, ◌≤◌, ◌↔◌, ◌≢◌, ◌⊎◌, inl, inr, List, length, get_or, take, true, ap, ◌∙◌, refl, arith, le-ltb, lt-ltb, le-leb, eq-eqb, ne_eqb}
use Rattle.std.specs.Prelude.{All, None, Ok, nat_lt}
use Rattle.std.proofs.lemmas.Bool.{cases_lt, cases_eq, lt-leb}
use Rattle.std.proofs.lemmas.List.{length-take-le}
use Rattle.std.proofs.lemmas.List.Sums.{list_all-from_AllPass}
use Rattle.std.proofs.lemmas.List.FromFn.{get_or-map-range_with_len}
use Rattle.numbers.specs.Numbers.{modulus, seq_no}
use Rattle.pdu.specs.Layout.{number_at, sd_bytes, poll_bytes, stat_bytes, ustat_bytes}
use Rattle.pdu.specs.Decoding.{decode_of, pdu_of_type, pdu_of_sd, elements_of, read_sd, read_poll, read_stat, read_ustat}
use Rattle.pdu.specs.Encoding.{refused_sd, all_below}
use Rattle.pdu.specs.RoundTrip.{again, IsClean}
use Rattle.pdu.specs.declared.decoding.Pdu.{Pdu}
use Rattle.pdu.specs.declared.refusal.Refusal.{Refusal}
use Rattle.pdu.specs.declared.refusal.Refusal.TheVariants.{Length, TypeZero, OtherType, Rules}
use Rattle.pdu.proofs.Elements.{length-elements_of}
use Rattle.pdu.proofs.Again.{number_small, poll_kept, poll_clean, ustat_kept, ustat_clean, stat_kept, stat_clean, sd_kept, sd_clean}

abbrev Same : ℕ → Pdu → List ℕ → Type 0
Same k v bs = (again k v bs ≡ Ok bs) ↔ IsClean v bs

same_refused : (k : ℕ) (e : Refusal) (bs : List ℕ) → Same k (Pdu.Refused e) bs
same_refused k e bs = (λ q. cc, λ b. absurd b)

pub accepted_sd : (k s : ℕ) (information : List ℕ) → k ≤ 4096 → s < modulus → length information ≤ k → refused_sd k s information ≡ None
accepted_sd k s information a b d = rw (le-ltb 4096 k a, lt-ltb s modulus b, le-ltb k (length information) d) refl

same_sd : (k l : ℕ) (bs : List ℕ) → All (λ b. b < 256) bs → k ≤ 4096 → 4 ≤ length bs → length bs % 4 ≡ 0 → get_or bs (length bs - 4) 0 % 16 ≡ 8 → get_or bs (length bs - 4) 0 / 64 + l ≡ length bs - 4 → l ≤ k → Same k (Pdu.Sd (record { s = seq_no (number_at bs (length bs - 4)); length = l })) bs
same_sd k l bs all hk h m t e hl =
    let s = number_at bs (length bs - 4) in
    let long : length (take l bs) ≡ l = length-take-le l bs (omega arith) in
    let taken = accepted_sd k s (take l bs) hk (number_small bs (length bs - 4) all (omega arith)) (omega arith) in
    rw taken (
      (λ q. let b : sd_bytes s (take l bs) ≡ bs = cc in let c = sd_clean s l bs h (omega arith) b in record { pads = c.0; last = c.1 }),
      (λ c. ap Ok (sd_kept bs l all h m t e c.pads c.last)),
    )

same_poll : (k : ℕ) (bs : List ℕ) → All (λ b. b < 256) bs → length bs ≡ 8 → get_or bs (length bs - 4) 0 % 16 ≡ 10 → Same k (Pdu.Poll (read_poll bs)) bs
same_poll k bs all n t =
    let a = lt-ltb (number_at bs 0) modulus (number_small bs 0 all (omega arith)) in
    let b = lt-ltb (number_at bs 4) modulus (number_small bs 4 all (omega arith)) in
    rw (a, b) (
      (λ q. let e : poll_bytes (number_at bs 0) (number_at bs 4) ≡ bs = cc in poll_clean bs n e),
      (λ c. ap Ok (poll_kept bs all n t c)),
    )

same_ustat : (k : ℕ) (bs : List ℕ) → All (λ b. b < 256) bs → length bs ≡ 16 → get_or bs (length bs - 4) 0 % 16 ≡ 12 → Same k (Pdu.Ustat (read_ustat bs)) bs
same_ustat k bs all n t =
    let a = lt-ltb (number_at bs 0) modulus (number_small bs 0 all (omega arith)) in
    let b = lt-ltb (number_at bs 4) modulus (number_small bs 4 all (omega arith)) in
    let c = lt-ltb (number_at bs 8) modulus (number_small bs 8 all (omega arith)) in
    let d = lt-ltb (number_at bs 12) modulus (number_small bs 12 all (omega arith)) in
    rw (a, b, c, d) (
      (λ q. let e : ustat_bytes (number_at bs 0) (number_at bs 4) (number_at bs 8) (number_at bs 12) ≡ bs = cc in ustat_clean bs n e),
      (λ w. ap Ok (ustat_kept bs all n t w)),
    )

elements_below : (bs : List ℕ) → All (λ b. b < 256) bs → all_below (elements_of bs) ≡ true
elements_below bs all =
    list_all-from_AllPass (λ n. nat_lt n modulus) (elements_of bs) (λ i d h.
    let l : i < (length bs - 12) / 4 = omega (arith, length-elements_of bs) in
    let there : get_or (elements_of bs) i d ≡ number_at bs (4 * i) = get_or-map-range_with_len (λ (j : ℕ). number_at bs (4 * j)) 0 ((length bs - 12) / 4) i i d l (omega arith) in
    lt-ltb _ modulus (rw there (number_small bs (4 * i) all (omega arith))))

same_stat : (k : ℕ) (bs : List ℕ) → All (λ b. b < 256) bs → 12 ≤ length bs → length bs % 4 ≡ 0 → get_or bs (length bs - 4) 0 % 16 ≡ 11 → Same k (Pdu.Stat (read_stat bs)) bs
same_stat k bs all h m t =
    let a = lt-ltb (number_at bs (length bs - 12)) modulus (number_small bs (length bs - 12) all (omega arith)) in
    let b = lt-ltb (number_at bs (length bs - 12 + 4)) modulus (number_small bs (length bs - 12 + 4) all (omega arith)) in
    let c = lt-ltb (number_at bs (length bs - 12 + 8)) modulus (number_small bs (length bs - 12 + 8) all (omega arith)) in
    rw (a, b, c, elements_below bs all) (
      (λ q. let e : stat_bytes (number_at bs (length bs - 12)) (number_at bs (length bs - 12 + 4)) (number_at bs (length bs - 12 + 8)) (elements_of bs) ≡ bs = cc in stat_clean _ _ _ bs h m e),
      (λ w. ap Ok (stat_kept bs all h m t w)),
    )

-- ---- by the decoder's tests, in their order

-- an SD, or error U
read_again : (k : ℕ) (bs : List ℕ) → All (λ b. b < 256) bs → k ≤ 4096 → 4 ≤ length bs → length bs % 4 ≡ 0 → get_or bs (length bs - 4) 0 % 16 ≡ 8 → Same k (pdu_of_sd (read_sd k bs)) bs
read_again k bs all hk h m t = go (cases_lt (length bs - 4) (get_or bs (length bs - 4) 0 / 64)) (cases_lt k (length bs - 4 - get_or bs (length bs - 4) 0 / 64))
  where
    go : ((length bs - 4 < get_or bs (length bs - 4) 0 / 64) ⊎ (get_or bs (length bs - 4) 0 / 64 ≤ length bs - 4)) → ((k < length bs - 4 - get_or bs (length bs - 4) 0 / 64) ⊎ (length bs - 4 - get_or bs (length bs - 4) 0 / 64 ≤ k)) → Same k (pdu_of_sd (read_sd k bs)) bs
    go (inl a) _ = rw (lt-ltb (length bs - 4) (get_or bs (length bs - 4) 0 / 64) a) (same_refused k Length bs)
    go (inr a) (inl b) = rw (le-ltb (length bs - 4) (get_or bs (length bs - 4) 0 / 64) a, lt-ltb k (length bs - 4 - get_or bs (length bs - 4) 0 / 64) b) (same_refused k Length bs)
    go (inr a) (inr b) = rw (le-ltb (length bs - 4) (get_or bs (length bs - 4) 0 / 64) a, le-ltb k (length bs - 4 - get_or bs (length bs - 4) 0 / 64) b) (same_sd k (length bs - 4 - get_or bs (length bs - 4) 0 / 64) bs all hk h m t (omega arith) b)

-- a PDU of some type t
typed_again : (k t : ℕ) (bs : List ℕ) → All (λ b. b < 256) bs → k ≤ 4096 → 4 ≤ length bs → length bs % 4 ≡ 0 → get_or bs (length bs - 4) 0 % 16 ≡ t → Same k (pdu_of_type k t bs) bs
typed_again k t bs all hk h m e = type_0 (cases_eq t 0)
  where
    type_12 : t ≢ 0 → t ≢ 8 → t ≢ 10 → t ≢ 11 → ((t ≡ 12) ⊎ (t ≢ 12)) → ((length bs ≡ 16) ⊎ (length bs ≢ 16)) → Same k (pdu_of_type k t bs) bs
    type_12 a b c d (inl f) (inl l) = rw (ne_eqb t 0 a, ne_eqb t 8 b, ne_eqb t 10 c, ne_eqb t 11 d, eq-eqb t 12 f, eq-eqb (length bs) 16 l) (same_ustat k bs all l (e ∙ f))
    type_12 a b c d (inl f) (inr l) = rw (ne_eqb t 0 a, ne_eqb t 8 b, ne_eqb t 10 c, ne_eqb t 11 d, eq-eqb t 12 f, ne_eqb (length bs) 16 l) (same_refused k Length bs)
    type_12 a b c d (inr f) _ = rw (ne_eqb t 0 a, ne_eqb t 8 b, ne_eqb t 10 c, ne_eqb t 11 d, ne_eqb t 12 f) (same_refused k OtherType bs)

    type_11 : t ≢ 0 → t ≢ 8 → t ≢ 10 → ((t ≡ 11) ⊎ (t ≢ 11)) → ((length bs < 12) ⊎ (12 ≤ length bs)) → Same k (pdu_of_type k t bs) bs
    type_11 a b c (inl d) (inl l) = rw (ne_eqb t 0 a, ne_eqb t 8 b, ne_eqb t 10 c, eq-eqb t 11 d, lt-leb 12 (length bs) l) (same_refused k Length bs)
    type_11 a b c (inl d) (inr l) = rw (ne_eqb t 0 a, ne_eqb t 8 b, ne_eqb t 10 c, eq-eqb t 11 d, le-leb 12 (length bs) l) (same_stat k bs all l m (e ∙ d))
    type_11 a b c (inr d) _ = type_12 a b c d (cases_eq t 12) (cases_eq (length bs) 16)

    type_10 : t ≢ 0 → t ≢ 8 → ((t ≡ 10) ⊎ (t ≢ 10)) → ((length bs ≡ 8) ⊎ (length bs ≢ 8)) → Same k (pdu_of_type k t bs) bs
    type_10 a b (inl c) (inl l) = rw (ne_eqb t 0 a, ne_eqb t 8 b, eq-eqb t 10 c, eq-eqb (length bs) 8 l) (same_poll k bs all l (e ∙ c))
    type_10 a b (inl c) (inr l) = rw (ne_eqb t 0 a, ne_eqb t 8 b, eq-eqb t 10 c, ne_eqb (length bs) 8 l) (same_refused k Length bs)
    type_10 a b (inr c) _ = type_11 a b c (cases_eq t 11) (cases_lt (length bs) 12)

    type_8 : t ≢ 0 → ((t ≡ 8) ⊎ (t ≢ 8)) → Same k (pdu_of_type k t bs) bs
    type_8 a (inl b) = rw (ne_eqb t 0 a, eq-eqb t 8 b) (read_again k bs all hk h m (e ∙ b))
    type_8 a (inr b) = type_10 a b (cases_eq t 10) (cases_eq (length bs) 8)

    type_0 : ((t ≡ 0) ⊎ (t ≢ 0)) → Same k (pdu_of_type k t bs) bs
    type_0 (inl a) = rw (eq-eqb t 0 a) (same_refused k TypeZero bs)
    type_0 (inr a) = type_8 a (cases_eq t 8)

-- THE SECOND ROUND TRIP
pub same_again : (k : ℕ) (bs : List ℕ) → All (λ b. b < 256) bs → (again k (decode_of k bs) bs ≡ Ok bs) ↔ IsClean (decode_of k bs) bs
unfolding decode_of
same_again k bs all = go (cases_lt 4096 k) (cases_lt (length bs) 4) (cases_eq (length bs % 4) 0)
  where
    go : ((4096 < k) ⊎ (k ≤ 4096)) → ((length bs < 4) ⊎ (4 ≤ length bs)) → ((length bs % 4 ≡ 0) ⊎ (length bs % 4 ≢ 0)) → Same k (decode_of k bs) bs
    go (inl a) _ _ = rw (lt-ltb 4096 k a) (same_refused k Rules bs)
    go (inr a) (inl b) _ = rw (le-ltb 4096 k a, lt-ltb (length bs) 4 b) (same_refused k Length bs)
    go (inr a) (inr b) (inr c) = rw (le-ltb 4096 k a, le-ltb (length bs) 4 b, ne_eqb (length bs % 4) 0 c) (same_refused k Length bs)
    go (inr a) (inr b) (inl c) = rw (le-ltb 4096 k a, le-ltb (length bs) 4 b, eq-eqb (length bs % 4) 0 c) (typed_again k (get_or bs (length bs - 4) 0 % 16) bs all a b c refl)
