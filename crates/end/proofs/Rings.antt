-- What 17 says of one message: the rule of its entry, by its place and by its slot.
use Rattle.std.proofs.Common.{sym, ◌∙◌, ◌≡◌, ℕ, ◌+◌, ◌-◌, ◌<◌, ◌≤◌, ◌≢◌, ◌⊎◌, inl, inr, List, length, take, get_or, true, arith, le-leb, zero-add}
use Rattle.std.proofs.lemmas.Bool.{cases_lt, lt-leb}
use Rattle.std.proofs.lemmas.List.{get_or-take, length-take-le, get_or_default}
use Rattle.std.proofs.lemmas.List.Sums.{AllPass-from_list_all, list_all-from_AllPass}
use Rattle.std.proofs.lemmas.List.FromFn.{length-enumerate_from, get_or-enumerate_from}
use Rattle.std.proofs.lemmas.Bool.Decides.{nat_tests}
use Rattle.std.specs.List.{enumerate_from, zip}
use Rattle.std.proofs.lemmas.Slice.Zip.{get_or-zip, length-zip}
use Rattle.numbers.specs.Counting.{onward}
use Rattle.end.specs.Ring.{place}
use Rattle.end.specs.Rules.{sent, passed, seen, entry_keeps, entries_keep, mark_keeps, marks_keep}
use Rattle.end.specs.Ready.{IsReadyVt, IsReadyVr}
use Rattle.end.specs.declared.params.Params.{Params}
use Rattle.end.specs.declared.transmitter.Kept.{Kept}
use Rattle.end.specs.declared.transmitter.Transmitter.{Transmitter}
use Rattle.end.specs.declared.receiver.Receiver.{Receiver}
use Rattle.end.proofs.Slots.{slot_below, slot_past}
use Rattle.numbers.proofs.Laws.{onward-lt, onward-zero}

-- the message in the slot of message i is message i
pub place-onward : (size first i : ℕ) → first < size → i < size → place first size (onward size first i) ≡ i
place-onward size first i h k = go (cases_lt (first + i) size)
  where
    go : ((first + i < size) ⊎ (size ≤ first + i)) → place first size (onward size first i) ≡ i
    go (inl l) = rw (← slot_below size first i l, le-leb first (first + i) (omega arith)) (omega arith)
    go (inr l) = rw (← slot_past size first i l h (omega arith), lt-leb first (first + i - size) (omega arith)) (omega arith)

-- each entry of a ring keeps the rule of its message
pub entry_at : (k sent kept first : ℕ) (ring : List Kept) (slot : ℕ) (d : Kept) → entries_keep k sent kept first ring ≡ true → slot < length ring → entry_keeps k sent kept (place first (length ring) slot) (get_or ring slot d) ≡ true
entry_at k sent kept first ring slot d e h =
    let all = AllPass-from_list_all (λ m. entry_keeps k sent kept (place first (length ring) m.0) m.1) (enumerate_from 0 ring) e slot (0, d) (omega (arith, length-enumerate_from 0 ring)) in
    rw (get_or-enumerate_from 0 ring slot (0, d) h, zero-add slot) at all

-- the entry of message i of a transmitter that keeps the rules
pub entry_rule : (p : Params) (v : Transmitter) (i : ℕ) (d : Kept) → IsReadyVt p v → i < p.keep → entry_keeps p.longest (sent v) v.kept i (get_or v.entries.now (onward p.keep v.first i) d) ≡ true
entry_rule p v i d ready h =
    let slot = onward p.keep v.first i in
    let below : slot < p.keep = onward-lt p.keep (omega arith) v.first i in
    let long : length (take p.keep v.entries.now) ≡ p.keep = length-take-le p.keep v.entries.now ready.entries_long in
    let rule = entry_at p.longest (sent v) v.kept v.first (take p.keep v.entries.now) slot d ready.each (omega arith) in
    rw (long, place-onward p.keep v.first i ready.first h, get_or-take p.keep v.entries.now slot d below) at rule

pub entry_short : (p : Params) (v : Transmitter) (i : ℕ) (d : Kept) → IsReadyVt p v → i < v.kept → (get_or v.entries.now (onward p.keep v.first i) d).length ≤ p.longest
entry_short p v i d ready h =
    let kept = ready.kept in
    let rule = entry_rule p v i d ready (omega arith) in
    grind (arith, nat_tests)

-- ---- the receiver's ring

pub mark_at : (k r h head : ℕ) (marks lengths : List ℕ) (slot : ℕ) → marks_keep k r h head marks lengths ≡ true → slot < length marks → slot < length lengths → mark_keeps k r h (place head (length marks) slot) (get_or marks slot 0) (get_or lengths slot 0) ≡ true
mark_at k r h head marks lengths slot e a b =
    let all = AllPass-from_list_all (λ m. mark_keeps k r h (place head (length marks) m.0) m.1.0 m.1.1) (enumerate_from 0 (zip marks lengths)) e slot (0, (0, 0)) (omega (arith, length-enumerate_from 0 (zip marks lengths), length-zip marks lengths)) in
    rw (get_or-enumerate_from 0 (zip marks lengths) slot (0, (0, 0)) (omega (arith, length-zip marks lengths)), zero-add slot, get_or-zip marks lengths slot (0, 0) a b) at all

-- the mark and the length of message i of a receiver that keeps the rules
pub mark_rule : (p : Params) (v : Receiver) (i : ℕ) → IsReadyVr p v → i < p.credit → mark_keeps p.longest (passed v) (seen v) i (get_or v.marks.now (onward p.credit v.head i) 0) (get_or v.lengths.now (onward p.credit v.head i) 0) ≡ true
mark_rule p v i ready h =
    let slot = onward p.credit v.head i in
    let below : slot < p.credit = onward-lt p.credit (omega arith) v.head i in
    let marks_long : length (take p.credit v.marks.now) ≡ p.credit = length-take-le p.credit v.marks.now ready.marks_long in
    let lengths_long : length (take p.credit v.lengths.now) ≡ p.credit = length-take-le p.credit v.lengths.now ready.lengths_long in
    let rule = mark_at p.longest (passed v) (seen v) v.head (take p.credit v.marks.now) (take p.credit v.lengths.now) slot ready.each (omega arith) (omega arith) in
    rw (marks_long, place-onward p.credit v.head i ready.head h, get_or-take p.credit v.marks.now slot 0 below, get_or-take p.credit v.lengths.now slot 0 below) at rule

-- message T, where there is one in order, has at most k bytes
pub first_short : (p : Params) (v : Receiver) → IsReadyVr p v → 0 < passed v → get_or v.lengths.now v.head 0 ≤ p.longest
first_short p v ready h =
    let in_window = ready.passed_seen in
    let in_credit = ready.seen_credit in
    let rule = mark_rule p v 0 ready (omega arith) in
    let here : onward p.credit v.head 0 ≡ v.head = onward-zero p.credit (omega arith) v.head ready.head in
    let rule_here = rw here at rule in
    grind (arith, nat_tests)

-- a ring keeps the rules where each of its entries does
pub entries_from : (k sent' kept first : ℕ) (ring : List Kept) → ((slot : ℕ) (d : Kept) → slot < length ring → entry_keeps k sent' kept (place first (length ring) slot) (get_or ring slot d) ≡ true) → entries_keep k sent' kept first ring ≡ true
entries_from k sent' kept first ring each =
    list_all-from_AllPass (λ m. entry_keeps k sent' kept (place first (length ring) m.0) m.1) (enumerate_from 0 ring) (λ slot d h.
    let l : slot < length ring = omega (arith, length-enumerate_from 0 ring) in
    rw (get_or-enumerate_from 0 ring slot d l, zero-add slot) (each slot d.1 l))

-- a slot is the slot of its message
pub onward-place : (size first slot : ℕ) → first < size → slot < size → onward size first (place first size slot) ≡ slot
onward-place size first slot h k = go (cases_lt slot first)
  where
    go : ((slot < first) ⊎ (first ≤ slot)) → onward size first (place first size slot) ≡ slot
    go (inr l) = rw (le-leb first slot l) (let e : first + (slot - first) ≡ slot = omega arith in sym (slot_below size first (slot - first) (omega arith)) ∙ e)
    go (inl l) = rw (lt-leb first slot l) (let e : first + (size - (first - slot)) - size ≡ slot = omega arith in sym (slot_past size first (size - (first - slot)) (omega arith) h (omega arith)) ∙ e)

pub place-lt : (size first slot : ℕ) → first < size → slot < size → place first size slot < size
place-lt size first slot h k = grind (arith, nat_tests)

-- ---- the first message goes, and each other one is a place nearer

pub place_next : (size first slot : ℕ) → first < size → slot < size → slot ≢ first → place (onward size first 1) size slot + 1 ≡ place first size slot
place_next size first slot h k n = go (cases_lt (first + 1) size)
  where
    go : ((first + 1 < size) ⊎ (size ≤ first + 1)) → place (onward size first 1) size slot + 1 ≡ place first size slot
    go (inl l) = rw (← slot_below size first 1 l) (grind (arith, nat_tests))
    go (inr l) = rw (← slot_past size first 1 l h (omega arith)) (grind (arith, nat_tests))

pub place_last : (size first : ℕ) → first < size → place (onward size first 1) size first + 1 ≡ size
place_last size first h = go (cases_lt (first + 1) size)
  where
    go : ((first + 1 < size) ⊎ (size ≤ first + 1)) → place (onward size first 1) size first + 1 ≡ size
    go (inl l) = rw (← slot_below size first 1 l) (grind (arith, nat_tests))
    go (inr l) = rw (← slot_past size first 1 l h (omega arith)) (grind (arith, nat_tests))

pub marks_from : (k passed' seen' head : ℕ) (marks lengths : List ℕ) → length marks ≤ length lengths → ((slot : ℕ) → slot < length marks → mark_keeps k passed' seen' (place head (length marks) slot) (get_or marks slot 0) (get_or lengths slot 0) ≡ true) → marks_keep k passed' seen' head marks lengths ≡ true
marks_from k passed' seen' head marks lengths long each =
    list_all-from_AllPass (λ m. mark_keeps k passed' seen' (place head (length marks) m.0) m.1.0 m.1.1) (enumerate_from 0 (zip marks lengths)) (λ slot d h.
    let l : slot < length (zip marks lengths) = omega (arith, length-enumerate_from 0 (zip marks lengths)) in
    let a : slot < length marks = omega (arith, length-zip marks lengths) in
    let m : get_or marks slot d.1.0 ≡ get_or marks slot 0 = get_or_default marks slot d.1.0 0 a in
    let n : get_or lengths slot d.1.1 ≡ get_or lengths slot 0 = get_or_default lengths slot d.1.1 0 (omega arith) in
    rw (get_or-enumerate_from 0 (zip marks lengths) slot d l, zero-add slot, get_or-zip marks lengths slot d.1 a (omega arith), m, n) (each slot a))
