-- The bytes of a list: how many, and one element more. Bytes written one after another.
use Rattle.std.proofs.Common.{◌≡◌, ℕ, ◌+◌, ◌*◌, ◌<◌, List, [], ◌∷◌, ◌++◌, length, take, drop, get_or, refl, sym, ap, arith, rules, length-append}
use Rattle.std.specs.List.{flat_map}
use Rattle.std.proofs.lemmas.List.{take_at, take_more, append-nil}
use Rattle.std.proofs.lemmas.List.Concat.{flat_map-append}
use Rattle.std.proofs.lemmas.Slice.{drop-append-drop}
use Rattle.pdu.specs.Layout.{word, write_at, stat_bytes}

pub length_list : (es : List ℕ) → length (flat_map (word 0) es) ≡ 4 * length es
length_list [] = refl
length_list (e ∷ es) = omega (arith, length_list es)

-- bytes written right after those that were written before
pub write_next : (done w old : List ℕ) (n m : ℕ) → n ≡ length done → m ≡ n + length w → write_at n w (done ++ drop n old) ≡ (done ++ w) ++ drop m old
write_next done w old n m e f =
    let front : take n (done ++ drop n old) ≡ done = take_at done (drop n old) n (sym e) in
    let back : drop (n + length w) (done ++ drop n old) ≡ drop (n + length w) old = drop-append-drop n old done (n + length w) (omega arith) (sym e) in
    rw (front, back, f) refl

pub list_more : (es old : List ℕ) (i e : ℕ) → i < length es → e ≡ get_or es i 0 → write_at (4 * i) (word 0 e) (flat_map (word 0) (take i es) ++ drop (4 * i) old) ≡ flat_map (word 0) (take (i + 1) es) ++ drop (4 * (i + 1)) old
list_more es old i e h r =
    let here : take (i + 1) es ≡ take i es ++ (e ∷ []) = rw r (take_more es i 0 h) in
    let many : 4 * i ≡ length (flat_map (word 0) (take i es)) = let count : length (take i es) ≡ i = search rules in omega (arith, length_list (take i es)) in
    let more : flat_map (word 0) (take (i + 1) es) ≡ flat_map (word 0) (take i es) ++ word 0 e = rw (here, flat_map-append) (ap (λ (x : List ℕ). flat_map (word 0) (take i es) ++ x) (append-nil (word 0 e))) in
    rw more (write_next (flat_map (word 0) (take i es)) (word 0 e) old (4 * i) (4 * (i + 1)) many (omega arith))

pub length_stat : (ps mr r : ℕ) (es : List ℕ) → length (stat_bytes ps mr r es) ≡ 4 * length es + 12
unfolding stat_bytes
length_stat ps mr r es = simp (length-append, length_list) (omega arith)

-- the three words of a STAT's head, behind its list
pub write_head : (ps mr r : ℕ) (es old : List ℕ) (n : ℕ) → n ≡ 4 * length es → write_at (n + 8) (word 11 r) (write_at (n + 4) (word 0 mr) (write_at n (word 0 ps) (flat_map (word 0) es ++ drop n old))) ≡ stat_bytes ps mr r es ++ drop (n + 12) old
unfolding stat_bytes
write_head ps mr r es old n e =
    let list = flat_map (word 0) es in
    let first = write_next list (word 0 ps) old n (n + 4) (omega (arith, length_list es)) refl in
    let second = write_next (list ++ word 0 ps) (word 0 mr) old (n + 4) (n + 8) (simp (length-append, length_list) (omega arith)) (omega arith) in
    let third = write_next ((list ++ word 0 ps) ++ word 0 mr) (word 11 r) old (n + 8) (n + 12) (simp (length-append, length_list) (omega arith)) (omega arith) in
    rw (first, second) third
