-- Decoded bytes encode to the same bytes exactly when their reserved and pad bits are zero.
use Rattle.std.proofs.Common.{◌≡◌, ℕ, zero, suc, ◌+◌, ◌-◌, ◌*◌, ◌/◌, ◌%◌, ◌^◌, ◌<◌, ◌≤◌, List, [], ◌∷◌, ◌++◌, map, length, get_or, take, replicate, sym, ap, ap₂, ◌∙◌, refl, subst, arith, append_assoc, length-append, add-one}
use Rattle.std.specs.Prelude.{All}
use Rattle.std.specs.List.{flat_map, range_with_len}
use Rattle.std.proofs.lemmas.List.{take_more, take_all, append-nil, get_or_append_left, length-replicate, get_or-replicate, get_or-append-add, replicate-append-replicate, length-take-le}
use Rattle.std.proofs.lemmas.List.Concat.{flat_map-append}
use Rattle.std.proofs.lemmas.List.FromFn.{map-range_with_len_more}
use Rattle.std.proofs.Math.Decide.{dec_lt}
use Rattle.numbers.specs.Numbers.{modulus}
use Rattle.pdu.proofs.Lists.{length_list}
use Rattle.pdu.proofs.Elements.{length-elements_of}
use Rattle.pdu.proofs.Decoded.{stat_split, length-sd, sd_first}
use Rattle.pdu.specs.Layout.{number_at, word, pad, sd_bytes, poll_bytes, stat_bytes, ustat_bytes}
use Rattle.pdu.specs.Decoding.{elements_of}
use Rattle.pdu.specs.RoundTrip.{IsCleanWords}

-- three bytes are a number below 2^24, and the number has these three bytes
pub number_small : (bs : List ℕ) (i : ℕ) → All (λ b. b < 256) bs → i + 4 ≤ length bs → number_at bs i < modulus
number_small bs i all h =
    let a = all (i + 1) 0 (omega arith) in
    let b = all (i + 2) 0 (omega arith) in
    let c = all (i + 3) 0 (omega arith) in
    omega arith

pub word_again : (bs : List ℕ) (i : ℕ) → All (λ b. b < 256) bs → i + 4 ≤ length bs → word (get_or bs i 0) (number_at bs i) ≡ get_or bs i 0 ∷ get_or bs (i + 1) 0 ∷ get_or bs (i + 2) 0 ∷ get_or bs (i + 3) 0 ∷ []
word_again bs i all h =
    let a = all (i + 1) 0 (omega arith) in
    let b = all (i + 2) 0 (omega arith) in
    let c = all (i + 3) 0 (omega arith) in
    let high : number_at bs i / 2 ^ 16 % 256 ≡ get_or bs (i + 1) 0 = omega arith in
    let middle : number_at bs i / 2 ^ 8 % 256 ≡ get_or bs (i + 2) 0 = omega arith in
    let low : number_at bs i % 256 ≡ get_or bs (i + 3) 0 = omega arith in
    rw (high, middle, low) refl

two_more : (i : ℕ) → i + 2 ≡ i + 1 + 1
two_more i = omega arith

three_more : (i : ℕ) → i + 3 ≡ i + 2 + 1
three_more i = omega arith

four_more : (i : ℕ) → i + 4 ≡ i + 3 + 1
four_more i = omega arith

pub four_bytes : (bs : List ℕ) (i n : ℕ) → n ≡ i + 4 → n ≤ length bs → take n bs ≡ take i bs ++ (get_or bs i 0 ∷ get_or bs (i + 1) 0 ∷ get_or bs (i + 2) 0 ∷ get_or bs (i + 3) 0 ∷ [])
four_bytes bs i n e h =
    let one : take (i + 1) bs ≡ take i bs ++ (get_or bs i 0 ∷ []) = take_more bs i 0 (omega arith) in
    let two : take (i + 2) bs ≡ take (i + 1) bs ++ (get_or bs (i + 1) 0 ∷ []) = rw (two_more i) (take_more bs (i + 1) 0 (omega arith)) in
    let three : take (i + 3) bs ≡ take (i + 2) bs ++ (get_or bs (i + 2) 0 ∷ []) = rw (three_more i) (take_more bs (i + 2) 0 (omega arith)) in
    let four : take (i + 4) bs ≡ take (i + 3) bs ++ (get_or bs (i + 3) 0 ∷ []) = rw (four_more i) (take_more bs (i + 3) 0 (omega arith)) in
    rw (e, four, three, two, one) (simp append_assoc)

-- a word more of bs, from what was read of it
pub take_word : (bs : List ℕ) (i n first : ℕ) → All (λ b. b < 256) bs → n ≡ i + 4 → n ≤ length bs → get_or bs i 0 ≡ first → take n bs ≡ take i bs ++ word first (number_at bs i)
take_word bs i n first all e h f =
    rw (four_bytes bs i n e h, ← f, word_again bs i all (omega arith)) refl

-- ---- POLL

pub poll_kept : (bs : List ℕ) → All (λ b. b < 256) bs → length bs ≡ 8 → get_or bs (length bs - 4) 0 % 16 ≡ 10 → IsCleanWords bs → poll_bytes (number_at bs 0) (number_at bs 4) ≡ bs
unfolding poll_bytes
poll_kept bs all n t clean =
    let l : length bs - 4 ≡ 4 = omega arith in
    let first : get_or bs 0 0 ≡ 0 = clean.pads 0 (omega arith) in
    let last : get_or bs 4 0 ≡ 10 = let a = rw l at t in let b = rw l at clean.last in omega arith in
    let one = take_word bs 0 4 0 all refl (omega arith) first in
    let two = take_word bs 4 8 10 all refl (omega arith) last in
    let whole : take 8 bs ≡ bs = take_all 8 bs (omega arith) in
    cc

pub poll_clean : (bs : List ℕ) → length bs ≡ 8 → poll_bytes (number_at bs 0) (number_at bs 4) ≡ bs → IsCleanWords bs
unfolding poll_bytes
poll_clean bs n e =
    let l : length bs - 4 ≡ 4 = omega arith in
    let first : 0 ≡ get_or bs 0 0 = ap (λ (x : List ℕ). get_or x 0 0) e in
    let last : 10 ≡ get_or bs 4 0 = ap (λ (x : List ℕ). get_or x 4 0) e in
    record { pads = λ i h. let z : i ≡ 0 = omega arith in rw z (sym first); last = rw l (omega arith) }

-- ---- USTAT

pads_3 : (bs : List ℕ) (i : ℕ) → i < 3 → get_or bs 0 0 ≡ 0 → get_or bs 4 0 ≡ 0 → get_or bs 8 0 ≡ 0 → get_or bs (4 * i) 0 ≡ 0
pads_3 bs zero h a b d = a
pads_3 bs (suc zero) h a b d = b
pads_3 bs (suc (suc zero)) h a b d = d
pads_3 bs (suc (suc (suc i))) h a b d = absurd (omega arith)

pub ustat_kept : (bs : List ℕ) → All (λ b. b < 256) bs → length bs ≡ 16 → get_or bs (length bs - 4) 0 % 16 ≡ 12 → IsCleanWords bs → ustat_bytes (number_at bs 0) (number_at bs 4) (number_at bs 8) (number_at bs 12) ≡ bs
unfolding ustat_bytes
ustat_kept bs all n t clean =
    let l : length bs - 4 ≡ 12 = omega arith in
    let a : get_or bs 0 0 ≡ 0 = clean.pads 0 (omega arith) in
    let b : get_or bs 4 0 ≡ 0 = clean.pads 1 (omega arith) in
    let d : get_or bs 8 0 ≡ 0 = clean.pads 2 (omega arith) in
    let last : get_or bs 12 0 ≡ 12 = let a = rw l at t in let b = rw l at clean.last in omega arith in
    let one = take_word bs 0 4 0 all refl (omega arith) a in
    let two = take_word bs 4 8 0 all refl (omega arith) b in
    let three = take_word bs 8 12 0 all refl (omega arith) d in
    let four = take_word bs 12 16 12 all refl (omega arith) last in
    let whole : take 16 bs ≡ bs = take_all 16 bs (omega arith) in
    cc

pub ustat_clean : (bs : List ℕ) → length bs ≡ 16 → ustat_bytes (number_at bs 0) (number_at bs 4) (number_at bs 8) (number_at bs 12) ≡ bs → IsCleanWords bs
unfolding ustat_bytes
ustat_clean bs n e =
    let l : length bs - 4 ≡ 12 = omega arith in
    let a : 0 ≡ get_or bs 0 0 = ap (λ (x : List ℕ). get_or x 0 0) e in
    let b : 0 ≡ get_or bs 4 0 = ap (λ (x : List ℕ). get_or x 4 0) e in
    let d : 0 ≡ get_or bs 8 0 = ap (λ (x : List ℕ). get_or x 8 0) e in
    let last : 12 ≡ get_or bs 12 0 = ap (λ (x : List ℕ). get_or x 12 0) e in
    record { pads = λ i h. pads_3 bs i (omega arith) (sym a) (sym b) (sym d); last = rw l (omega arith) }

-- ---- STAT

list_kept : (bs : List ℕ) (n : ℕ) → All (λ b. b < 256) bs → 4 * n ≤ length bs → ((i : ℕ) → i < n → get_or bs (4 * i) 0 ≡ 0) → flat_map (word 0) (map (λ i. number_at bs (4 * i)) (range_with_len 0 n)) ≡ take (4 * n) bs
list_kept bs zero all h clean = refl
list_kept bs (suc n) all h clean =
    let f = λ (i : ℕ). number_at bs (4 * i) in
    let before = list_kept bs n all (omega arith) (λ i l. clean i (omega arith)) in
    let one_more : map f (range_with_len 0 (suc n)) ≡ map f (range_with_len 0 n) ++ (f n ∷ []) = ap (λ (k : ℕ). map f (range_with_len 0 k)) (sym (add-one n)) ∙ map-range_with_len_more f 0 n n (omega arith) in
    let bytes : flat_map (word 0) (map f (range_with_len 0 n) ++ (f n ∷ [])) ≡ flat_map (word 0) (map f (range_with_len 0 n)) ++ word 0 (f n) = flat_map-append (word 0) (map f (range_with_len 0 n)) (f n ∷ []) in
    ap (flat_map (word 0)) one_more ∙ bytes ∙ ap (λ (xs : List ℕ). xs ++ word 0 (f n)) before
    ∙ sym (take_word bs (4 * n) (4 * suc n) 0 all (omega arith) (omega arith) (clean n (omega arith)))

pub stat_kept : (bs : List ℕ) → All (λ b. b < 256) bs → 12 ≤ length bs → length bs % 4 ≡ 0 → get_or bs (length bs - 4) 0 % 16 ≡ 11 → IsCleanWords bs → stat_bytes (number_at bs (length bs - 12)) (number_at bs (length bs - 12 + 4)) (number_at bs (length bs - 12 + 8)) (elements_of bs) ≡ bs
unfolding stat_bytes
stat_kept bs all h m t clean =
    let head = length bs - 12 in
    let n = (length bs - 12) / 4 in
    let in_words : 4 * n ≡ head = omega arith in
    let list : flat_map (word 0) (elements_of bs) ≡ take head bs = list_kept bs n all (omega arith) (λ i l. clean.pads i (omega arith)) ∙ ap (λ (j : ℕ). take j bs) in_words in
    let first : get_or bs head 0 ≡ 0 = rw (← in_words) (clean.pads n (omega arith)) in
    let second : get_or bs (head + 4) 0 ≡ 0 = let k : 4 * (n + 1) ≡ head + 4 = omega arith in rw (← k) (clean.pads (n + 1) (omega arith)) in
    let last : get_or bs (head + 8) 0 ≡ 11 = let k : length bs - 4 ≡ head + 8 = omega arith in let a = rw k at t in let b = rw k at clean.last in omega arith in
    let one = take_word bs head (head + 4) 0 all refl (omega arith) first in
    let two = take_word bs (head + 4) (head + 8) 0 all (omega arith) (omega arith) second in
    let three = take_word bs (head + 8) (length bs) 11 all (omega arith) (omega arith) last in
    let whole : take (length bs) bs ≡ bs = take_all (length bs) bs (omega arith) in
    rw (list, ← one, ← two, ← three) whole

first_in_list : (es rest : List ℕ) (i : ℕ) → i < length es → get_or (flat_map (word 0) es ++ rest) (4 * i) 0 ≡ 0
first_in_list [] rest i h = absurd (omega arith)
first_in_list (e ∷ es) rest zero h = refl
first_in_list (e ∷ es) rest (suc i) h =
    let next : 4 * suc i ≡ length (word 0 e) + 4 * i = omega arith in
    rw next (get_or-append-add (word 0 e) (flat_map (word 0) es ++ rest) (4 * i) 0 ∙ first_in_list es rest i (omega arith))

behind_list : (es rest : List ℕ) (i j : ℕ) → i ≡ 4 * length es + j → get_or (flat_map (word 0) es ++ rest) i 0 ≡ get_or rest j 0
behind_list es rest i j e =
    let there : i ≡ length (flat_map (word 0) es) + j = omega (arith, length_list es) in
    rw there (get_or-append-add (flat_map (word 0) es) rest j 0)

-- the first byte of each word of a STAT
stat_pads : (ps mr r : ℕ) (es : List ℕ) (i : ℕ) → i < length es + 2 → get_or (stat_bytes ps mr r es) (4 * i) 0 ≡ 0
stat_pads ps mr r es i h = rw stat_split (go (dec_lt i (length es)) (dec_lt i (length es + 1)))
  where
    go : Dec (i < length es) → Dec (i < length es + 1) → get_or (flat_map (word 0) es ++ (word 0 ps ++ (word 0 mr ++ word 11 r))) (4 * i) 0 ≡ 0
    go (yes l) _ = first_in_list es (word 0 ps ++ (word 0 mr ++ word 11 r)) i l
    go (no l) (yes k) = behind_list es (word 0 ps ++ (word 0 mr ++ word 11 r)) (4 * i) 0 (omega arith)
    go (no l) (no k) = behind_list es (word 0 ps ++ (word 0 mr ++ word 11 r)) (4 * i) 4 (omega arith)

stat_last : (ps mr r : ℕ) (es : List ℕ) → get_or (stat_bytes ps mr r es) (4 * length es + 8) 0 ≡ 11
stat_last ps mr r es = rw stat_split (behind_list es (word 0 ps ++ (word 0 mr ++ word 11 r)) (4 * length es + 8) 8 refl)

pub stat_clean : (ps mr r : ℕ) (bs : List ℕ) → 12 ≤ length bs → length bs % 4 ≡ 0 → stat_bytes ps mr r (elements_of bs) ≡ bs → IsCleanWords bs
stat_clean ps mr r bs h m e =
    let n : length (elements_of bs) ≡ (length bs - 12) / 4 = length-elements_of bs in
    let pad : (i : ℕ) → 4 * i + 4 < length bs → get_or bs (4 * i) 0 ≡ 0 = λ i l. ap (λ (x : List ℕ). get_or x (4 * i) 0) (sym e) ∙ stat_pads ps mr r (elements_of bs) i (omega arith) in
    let there : length bs - 4 ≡ 4 * length (elements_of bs) + 8 = omega arith in
    let last : get_or bs (length bs - 4) 0 ≡ 11 = rw there (ap (λ (x : List ℕ). get_or x (4 * length (elements_of bs) + 8) 0) (sym e) ∙ stat_last ps mr r (elements_of bs)) in
    record { pads = pad; last = omega arith }

-- ---- SD

zeros : (bs : List ℕ) (l j : ℕ) → l + j ≤ length bs → ((i : ℕ) → l ≤ i → i < l + j → get_or bs i 0 ≡ 0) → take (l + j) bs ≡ take l bs ++ replicate j 0
zeros bs l zero h clean = let z : l + 0 ≡ l = omega arith in rw z (sym (append-nil (take l bs)))
zeros bs l (suc j) h clean =
    let here : get_or bs (l + j) 0 ≡ 0 = clean (l + j) (omega arith) (omega arith) in
    let before = zeros bs l j (omega arith) (λ i a b. clean i a (omega arith)) in
    let next : l + suc j ≡ l + j + 1 = omega arith in
    let one : replicate {A = ℕ} j 0 ++ replicate 1 0 ≡ replicate (j + 1) 0 = replicate-append-replicate j 1 0 in
    ap (λ (k : ℕ). take k bs) next
    ∙ take_more bs (l + j) 0 (omega arith)
    ∙ ap₂ (λ (xs : List ℕ) (b : ℕ). xs ++ (b ∷ [])) before here
    ∙ append_assoc (take l bs) (replicate j 0) (0 ∷ [])
    ∙ ap (λ (xs : List ℕ). take l bs ++ xs) (one ∙ ap (λ (k : ℕ). replicate k 0) (add-one j))

pub sd_kept : (bs : List ℕ) (l : ℕ) → All (λ b. b < 256) bs → 4 ≤ length bs → length bs % 4 ≡ 0 → get_or bs (length bs - 4) 0 % 16 ≡ 8 → get_or bs (length bs - 4) 0 / 64 + l ≡ length bs - 4 → ((i : ℕ) → l ≤ i → i + 4 < length bs → get_or bs i 0 ≡ 0) → get_or bs (length bs - 4) 0 / 16 % 4 ≡ 0 → sd_bytes (number_at bs (length bs - 4)) (take l bs) ≡ bs
unfolding sd_bytes
sd_kept bs l all h m t e pads clean =
    let last = length bs - 4 in
    let small : get_or bs last 0 < 256 = all last 0 (omega arith) in
    let pl = get_or bs last 0 / 64 in
    let long : length (take l bs) ≡ l = length-take-le l bs (omega arith) in
    let same_pad : pad (length (take l bs)) ≡ pl = omega arith in
    let first : get_or bs last 0 ≡ pl * 64 + 8 = omega arith in
    let front : take (l + pl) bs ≡ take l bs ++ replicate pl 0 = zeros bs l pl (omega arith) (λ i a b. pads i a (omega arith)) in
    let here : l + pl ≡ last = omega arith in
    let front' : take last bs ≡ take l bs ++ replicate pl 0 = ap (λ (k : ℕ). take k bs) (sym here) ∙ front in
    let back = take_word bs last (length bs) (pl * 64 + 8) all (omega arith) (omega arith) first in
    let whole : take (length bs) bs ≡ bs = take_all (length bs) bs (omega arith) in
    rw (same_pad, ← front', ← back) whole

sd_pads : (s : ℕ) (information : List ℕ) (i : ℕ) → length information ≤ i → i < length information + pad (length information) → get_or (sd_bytes s information) i 0 ≡ 0
unfolding sd_bytes
sd_pads s information i h k =
    let n = length information in
    let there : i ≡ n + (i - n) = omega arith in
    get_or_append_left (information ++ replicate (pad n) 0) _ 0 i (simp (length-append, length-replicate) k)
    ∙ ap (λ (j : ℕ). get_or (information ++ replicate (pad n) 0) j 0) there
    ∙ get_or-append-add information (replicate (pad n) 0) (i - n) 0
    ∙ get_or-replicate (pad n) (i - n) 0 0 (omega arith)

pub sd_clean : (s l : ℕ) (bs : List ℕ) → 4 ≤ length bs → l ≤ length bs - 4 → sd_bytes s (take l bs) ≡ bs → ((i : ℕ) → l ≤ i → i + 4 < length bs → get_or bs i 0 ≡ 0) × (get_or bs (length bs - 4) 0 / 16 % 4 ≡ 0)
sd_clean s l bs h hl e =
    let long : length (take l bs) ≡ l = length-take-le l bs (omega arith) in
    let all : length bs ≡ length (take l bs) + pad (length (take l bs)) + 4 = ap length (sym e) ∙ length-sd s (take l bs) in
    let first : get_or bs (length bs - 4) 0 ≡ pad (length (take l bs)) * 64 + 8 = subst (λ (x : List ℕ). get_or x (length x - 4) 0 ≡ pad (length (take l bs)) * 64 + 8) e (sd_first s (take l bs)) in
    let pads : (i : ℕ) → l ≤ i → i + 4 < length bs → get_or bs i 0 ≡ 0 = λ i a b. ap (λ (x : List ℕ). get_or x i 0) (sym e) ∙ sd_pads s (take l bs) i (omega arith) (omega arith) in
    (pads, omega arith)
