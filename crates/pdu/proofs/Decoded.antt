-- What we encode decodes to the same fields, for every kind and every input that its encoder takes.
use Rattle.std.proofs.Common.{◌≡◌, ℕ, ◌+◌, ◌-◌, ◌*◌, ◌/◌, ◌%◌, ◌^◌, ◌<◌, ◌≤◌, List, [], ◌∷◌, ◌++◌, length, get_or, sym, ap, ◌∙◌, refl, arith, le-ltb, le-leb, eq-eqb, zero, suc, replicate, add-zero, length-append, append_assoc, add_assoc}
use Rattle.std.proofs.lemmas.List.FromFn.{fill_by_all}
use Rattle.pdu.proofs.Lists.{length_list, length_stat}
use Rattle.std.proofs.lemmas.List.{get_or-append-add, length-replicate}
use Rattle.std.specs.Prelude.{All}
use Rattle.std.specs.List.{flat_map}
use Rattle.numbers.specs.Numbers.{modulus, seq_no, poll_no}
use Rattle.pdu.specs.Layout.{number_at, word, pad, sd_bytes, poll_bytes, stat_bytes, ustat_bytes}
use Rattle.pdu.specs.Decoding.{decode_of, elements_of, read_stat}
use Rattle.pdu.specs.declared.decoding.Pdu.TheVariants as Pdu

-- a number of three bytes is what they say
pub number_word : (n : ℕ) → n < 2 ^ 24 → (n / 2 ^ 16 % 256 * 256 + n / 2 ^ 8 % 256) * 256 + n % 256 ≡ n
number_word n h = omega arith

-- DECODING BY ITS TESTS: where they come out like this, the decoder gives that
pub decode_sd_of : (k : ℕ) (bs : List ℕ) → k ≤ 4096 → 4 ≤ length bs → length bs % 4 ≡ 0 → get_or bs (length bs - 4) 0 % 16 ≡ 8 → get_or bs (length bs - 4) 0 / 64 ≤ length bs - 4 → length bs - 4 - get_or bs (length bs - 4) 0 / 64 ≤ k → decode_of k bs ≡ Pdu.Sd (record { s = seq_no (number_at bs (length bs - 4)); length = length bs - 4 - get_or bs (length bs - 4) 0 / 64 })
unfolding decode_of
decode_sd_of k bs hk h4 hm ht hp hl = rw (le-ltb 4096 k hk, le-ltb (length bs) 4 h4, eq-eqb _ _ hm, ht, le-ltb (length bs - 4) (get_or bs (length bs - 4) 0 / 64) hp, le-ltb k (length bs - 4 - get_or bs (length bs - 4) 0 / 64) hl) refl

pub decode-poll : (k ps s : ℕ) → k ≤ 4096 → ps < modulus → s < modulus → decode_of k (poll_bytes ps s) ≡ Pdu.Poll (record { ps = poll_no ps; s = seq_no s })
unfolding decode_of poll_bytes
decode-poll k ps s hk hp hs = rw (le-ltb 4096 k hk, number_word ps hp, number_word s hs) refl

pub decode-ustat : (k first second mr r : ℕ) → k ≤ 4096 → first < modulus → second < modulus → mr < modulus → r < modulus → decode_of k (ustat_bytes first second mr r) ≡ Pdu.Ustat (record { first = seq_no first; second = seq_no second; mr = seq_no mr; r = seq_no r })
unfolding decode_of ustat_bytes
decode-ustat k first second mr r hk h1 h2 h3 h4 = rw (le-ltb 4096 k hk, number_word first h1, number_word second h2, number_word mr h3, number_word r h4) refl

-- the word behind xs: its first byte, and its number
pub first_behind : (xs : List ℕ) (first n i : ℕ) → i ≡ length xs → get_or (xs ++ word first n) i 0 ≡ first
first_behind xs first n i e = rw e (ap (λ (j : ℕ). get_or (xs ++ word first n) j 0) (sym (add-zero (length xs))) ∙ get_or-append-add xs (word first n) 0 0)

pub number_behind : (xs : List ℕ) (first n i : ℕ) → i ≡ length xs → n < 2 ^ 24 → number_at (xs ++ word first n) i ≡ n
number_behind xs first n i e h = rw (e, get_or-append-add xs (word first n) 1 0, get_or-append-add xs (word first n) 2 0, get_or-append-add xs (word first n) 3 0) (number_word n h)

pub length-sd : (s : ℕ) (information : List ℕ) → length (sd_bytes s information) ≡ length information + pad (length information) + 4
unfolding sd_bytes
length-sd s information = simp (length-append, length-replicate) refl

pub sd_first : (s : ℕ) (information : List ℕ) → get_or (sd_bytes s information) (length (sd_bytes s information) - 4) 0 ≡ pad (length information) * 64 + 8
unfolding sd_bytes
sd_first s information = first_behind (information ++ replicate (pad (length information)) 0) _ s _ (simp length-append (omega arith))

pub sd_number : (s : ℕ) (information : List ℕ) → s < modulus → number_at (sd_bytes s information) (length (sd_bytes s information) - 4) ≡ s
unfolding sd_bytes
sd_number s information h = number_behind (information ++ replicate (pad (length information)) 0) _ s _ (simp length-append (omega arith)) h

pub decode-sd : (k s : ℕ) (information : List ℕ) → k ≤ 4096 → s < modulus → length information ≤ k → decode_of k (sd_bytes s information) ≡ Pdu.Sd (record { s = seq_no s; length = length information })
decode-sd k s information hk hs h =
    let n = length information in
    let all : length (sd_bytes s information) ≡ n + pad n + 4 = length-sd s information in
    let first : get_or (sd_bytes s information) (length (sd_bytes s information) - 4) 0 ≡ pad n * 64 + 8 = sd_first s information in
    let number : number_at (sd_bytes s information) (length (sd_bytes s information) - 4) ≡ s = sd_number s information hs in
    let e = decode_sd_of k (sd_bytes s information) hk (omega arith) (omega arith) (omega arith) (omega arith) (omega arith) in
    let l : length (sd_bytes s information) - 4 - get_or (sd_bytes s information) (length (sd_bytes s information) - 4) 0 / 64 ≡ n = omega arith in
    rw (number, l) at e

-- ---- STAT

pub decode_stat_of : (k : ℕ) (bs : List ℕ) → k ≤ 4096 → 12 ≤ length bs → length bs % 4 ≡ 0 → get_or bs (length bs - 4) 0 % 16 ≡ 11 → decode_of k bs ≡ Pdu.Stat (read_stat bs)
unfolding decode_of
decode_stat_of k bs hk h hm ht = rw (le-ltb 4096 k hk, le-ltb (length bs) 4 (omega arith), eq-eqb _ _ hm, ht, le-leb 12 (length bs) h) refl

pub number_behind_word : (xs ys : List ℕ) (i : ℕ) → number_at (xs ++ ys) (length xs + i) ≡ number_at ys i
number_behind_word xs ys i = rw (add_assoc (length xs) i 1, add_assoc (length xs) i 2, add_assoc (length xs) i 3, get_or-append-add xs ys (i + 1) 0, get_or-append-add xs ys (i + 2) 0, get_or-append-add xs ys (i + 3) 0) refl

-- list element i, in the list's bytes
pub number_in_list : (es rest : List ℕ) (i : ℕ) → All (λ e. e < modulus) es → i < length es → number_at (flat_map (word 0) es ++ rest) (4 * i) ≡ get_or es i 0
number_in_list [] rest i all h = absurd (omega arith)
number_in_list (e ∷ es) rest zero all h = number_word e (all 0 0 h)
number_in_list (e ∷ es) rest (suc i) all h =
    let next : 4 * suc i ≡ length (word 0 e) + 4 * i = omega arith in
    let there : number_at (word 0 e ++ (flat_map (word 0) es ++ rest)) (length (word 0 e) + 4 * i) ≡ number_at (flat_map (word 0) es ++ rest) (4 * i) =
    number_behind_word (word 0 e) (flat_map (word 0) es ++ rest) (4 * i) in
    rw next (there ∙ number_in_list es rest i (λ k d l. all (suc k) d (omega arith)) (omega arith))

-- a STAT's bytes: its list, and then three words
pub stat_split : (ps mr r : ℕ) (es : List ℕ) → stat_bytes ps mr r es ≡ flat_map (word 0) es ++ (word 0 ps ++ (word 0 mr ++ word 11 r))
unfolding stat_bytes
stat_split ps mr r es = simp append_assoc

pub stat_elements : (ps mr r : ℕ) (es : List ℕ) → All (λ e. e < modulus) es → elements_of (stat_bytes ps mr r es) ≡ es
stat_elements ps mr r es all =
    let many : (length (stat_bytes ps mr r es) - 12) / 4 ≡ length es = omega (arith, length_stat ps mr r es) in
    let each : (k : ℕ) → k < (length (stat_bytes ps mr r es) - 12) / 4 → get_or es k 0 ≡ number_at (stat_bytes ps mr r es) (4 * k) =
    λ k h. sym (rw stat_split (number_in_list es (word 0 ps ++ (word 0 mr ++ word 11 r)) k all (omega arith))) in
    sym (fill_by_all (λ i. number_at (stat_bytes ps mr r es) (4 * i)) es ((length (stat_bytes ps mr r es) - 12) / 4) 0 (sym many) each)

pub decode-stat : (k ps mr r : ℕ) (es : List ℕ) → k ≤ 4096 → ps < modulus → mr < modulus → r < modulus → decode_of k (stat_bytes ps mr r es) ≡ Pdu.Stat (record { ps = poll_no ps; mr = seq_no mr; r = seq_no r; count = length es })
decode-stat k ps mr r es hk h1 h2 h3 =
    let long = length_stat ps mr r es in
    let list = flat_map (word 0) es in
    let rest = word 0 ps ++ (word 0 mr ++ word 11 r) in
    let here : length (stat_bytes ps mr r es) - 12 ≡ length list + 0 = omega (arith, length_list es) in
    let there : length (stat_bytes ps mr r es) - 12 + 4 ≡ length list + 4 = omega (arith, length_list es) in
    let end : length (stat_bytes ps mr r es) - 12 + 8 ≡ length list + 8 = omega (arith, length_list es) in
    let last : length (stat_bytes ps mr r es) - 4 ≡ length list + 8 = omega (arith, length_list es) in
    let many : (length (stat_bytes ps mr r es) - 12) / 4 ≡ length es = omega arith in
    let first : get_or (stat_bytes ps mr r es) (length (stat_bytes ps mr r es) - 4) 0 ≡ 11 = rw (last, stat_split) (get_or-append-add list rest 8 0) in
    let a : number_at (stat_bytes ps mr r es) (length (stat_bytes ps mr r es) - 12) ≡ ps = rw (here, stat_split) (number_behind_word list rest 0 ∙ number_word ps h1) in
    let b : number_at (stat_bytes ps mr r es) (length (stat_bytes ps mr r es) - 12 + 4) ≡ mr = rw (there, stat_split) (number_behind_word list rest 4 ∙ number_word mr h2) in
    let d : number_at (stat_bytes ps mr r es) (length (stat_bytes ps mr r es) - 12 + 8) ≡ r = rw (end, stat_split) (number_behind_word list rest 8 ∙ number_word r h3) in
    rw (a, b, d, many) at (decode_stat_of k (stat_bytes ps mr r es) hk (omega arith) (omega arith) (omega arith))
