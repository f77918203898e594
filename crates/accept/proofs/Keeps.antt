-- Each step of the receiver keeps the rules of 17.
use Rattle.std.proofs.Common.{◌≡◌, ◌≢◌, ◌⊎◌, inl, inr, ℕ, ◌+◌, ◌<◌, ◌≤◌, List, length, take, get_or, set, true, refl, ◌∙◌, arith}
use Rattle.std.specs.Prelude.{Ok}
use Rattle.std.proofs.lemmas.Bool.{cases_eq, cases_lt, eq-eqb, ne_eqb, lt-ltb, le-ltb, le-leb}
use Rattle.std.proofs.lemmas.Bool.Decides.{nat_tests}
use Rattle.std.proofs.lemmas.List.{get_or-take, length-take-le, length-set, get_or-set_same, get_or-set_other}
use Rattle.numbers.specs.Counting.{onward, ahead}
use Rattle.numbers.specs.Numbers.{modulus}
use Rattle.numbers.proofs.Laws.{onward-lt, ahead-lt, onward-ahead, ahead-onward, onward-onward}
use Rattle.end.specs.Ring.{place}
use Rattle.end.specs.Rules.{passed, seen, mark_keeps, marks_keep, end_keeps, judged}
use Rattle.end.specs.Ready.{IsInRange, IsReadyVr}
use Rattle.end.proofs.Rings.{mark_at, marks_from, place_next, place_last}
use Rattle.end.proofs.Readiness.{ready, vr_changed}
use Rattle.end.specs.declared.params.Params.{Params}
use Rattle.end.specs.declared.receiver.Receiver.{Receiver}
use Rattle.end.specs.declared.whole.End.{End}
use Rattle.accept.specs.Take.{first_message, take_once, taken}

-- ---- take

-- a number that is ahead of q is ahead of the number after q by one less
nearer : (p q : ℕ) → p < modulus → q < modulus → 0 < ahead modulus p q → ahead modulus p (onward modulus q 1) + 1 ≡ ahead modulus p q
nearer p q hp hq some =
    let far = ahead-lt modulus (omega arith) p q in
    let again = onward-ahead modulus (omega arith) p q hp hq in
    let less = ahead-onward modulus (omega arith) q 1 (ahead modulus p q) (omega arith) (omega arith) in
    let same = rw again at less in
    omega arith

-- two numbers that both go up stay as far apart
apart : (p q c : ℕ) → p < modulus → q < modulus → c ≤ 1024 → ahead modulus p q ≡ c → ahead modulus (onward modulus p 1) (onward modulus q 1) ≡ c
apart p q c hp hq few e =
    let again : onward modulus q c ≡ p = rw e at (onward-ahead modulus (omega arith) p q hp hq) in
    let up : onward modulus p 1 ≡ onward modulus q (c + 1) = rw again at (onward-onward modulus (omega arith) q c 1) in
    let far = ahead-onward modulus (omega arith) q 1 (c + 1) (omega arith) (omega arith) in
    rw up (far ∙ omega arith)

-- the rule of a mark, when its message is a place nearer
rule_nearer : (k passed seen passed' seen' i i' mark n : ℕ) → passed' + 1 ≡ passed → seen' + 1 ≡ seen → i' + 1 ≡ i → mark_keeps k passed seen i mark n ≡ true → mark_keeps k passed' seen' i' mark n ≡ true
rule_nearer k passed seen passed' seen' i i' mark n a b c rule = grind (arith, nat_tests)

marks_taken : (p : Params) (v : Receiver) → IsInRange p → IsReadyVr p v → 0 < passed v → marks_keep p.longest (passed (take_once p v)) (seen (take_once p v)) (onward p.credit v.head 1) (take p.credit (set v.marks.now v.head 0)) (take p.credit v.lengths.now) ≡ true
marks_taken p v params r some =
    marks_from p.longest (passed (take_once p v)) (seen (take_once p v)) (onward p.credit v.head 1) (take p.credit (set v.marks.now v.head 0)) (take p.credit v.lengths.now) (omega (arith, long, long_lengths)) (λ slot l. each slot (omega (arith, long)) (cases_eq slot v.head))
  where
    long : length (take p.credit (set v.marks.now v.head 0)) ≡ p.credit
    long = length-take-le p.credit (set v.marks.now v.head 0) (let before = r.marks_long in rw length-set before)

    long_before : length (take p.credit v.marks.now) ≡ p.credit
    long_before = length-take-le p.credit v.marks.now r.marks_long

    long_lengths : length (take p.credit v.lengths.now) ≡ p.credit
    long_lengths = length-take-le p.credit v.lengths.now r.lengths_long

    passed_less : passed (take_once p v) + 1 ≡ passed v
    passed_less = nearer v.r.0 v.t.0 r.r r.t some

    seen_less : seen (take_once p v) + 1 ≡ seen v
    seen_less = let b = r.passed_seen in nearer v.h.0 v.t.0 r.h r.t (omega arith)

    each : (slot : ℕ) → slot < p.credit → ((slot ≡ v.head) ⊎ (slot ≢ v.head)) → mark_keeps p.longest (passed (take_once p v)) (seen (take_once p v)) (place (onward p.credit v.head 1) (length (take p.credit (set v.marks.now v.head 0))) slot) (get_or (take p.credit (set v.marks.now v.head 0)) slot 0) (get_or (take p.credit v.lengths.now) slot 0) ≡ true
    each slot l (inl e) =
        let gone : get_or (set v.marks.now v.head 0) slot 0 ≡ 0 = let before = r.marks_long in rw e (get_or-set_same v.marks.now v.head 0 0 (omega arith)) in
        let last : place (onward p.credit v.head 1) p.credit slot + 1 ≡ p.credit = rw e (place_last p.credit v.head r.head) in
        let few : passed v ≤ p.credit = let a = r.passed_seen in let b = r.seen_credit in omega arith in
        let less = passed_less in
        rw (long, get_or-take p.credit (set v.marks.now v.head 0) slot 0 l, gone) (le-leb _ _ (omega arith))
    each slot l (inr n) =
        let same : get_or (set v.marks.now v.head 0) slot 0 ≡ get_or v.marks.now slot 0 = get_or-set_other v.marks.now v.head slot 0 0 n in
        let rule = mark_at p.longest (passed v) (seen v) v.head (take p.credit v.marks.now) (take p.credit v.lengths.now) slot r.each (omega (arith, long_before)) (omega (arith, long_lengths)) in
        let rule_now : mark_keeps p.longest (passed v) (seen v) (place v.head p.credit slot) (get_or v.marks.now slot 0) (get_or (take p.credit v.lengths.now) slot 0) ≡ true = rw (long_before, get_or-take p.credit v.marks.now slot 0 l) at rule in
        rw (long, get_or-take p.credit (set v.marks.now v.head 0) slot 0 l, same)
        (rule_nearer p.longest (passed v) (seen v) (passed (take_once p v)) (seen (take_once p v)) (place v.head p.credit slot) (place (onward p.credit v.head 1) p.credit slot) (get_or v.marks.now slot 0) (get_or (take p.credit v.lengths.now) slot 0) passed_less seen_less (place_next p.credit v.head slot r.head l n) rule_now)

take_vr : (p : Params) (v : Receiver) → IsInRange p → IsReadyVr p v → 0 < passed v → IsReadyVr p (take_once p v)
take_vr p v params r some = record {
  marks_long = let before = r.marks_long in rw length-set before;
  lengths_long = r.lengths_long;
  bytes_long = r.bytes_long;
  t = onward-lt modulus (omega arith) v.t.0 1;
  r = r.r;
  h = r.h;
  mr = onward-lt modulus (omega arith) v.mr.0 1;
  passed_seen = let a = nearer v.r.0 v.t.0 r.r r.t some in let b = r.passed_seen in let c = nearer v.h.0 v.t.0 r.h r.t (omega arith) in omega arith;
  seen_credit = let b = r.passed_seen in let c = nearer v.h.0 v.t.0 r.h r.t (omega arith) in let d = r.seen_credit in omega arith;
  window = apart v.mr.0 v.t.0 p.credit r.mr r.t params.credit r.window;
  head = onward-lt p.credit params.some_credit v.head 1;
  each = marks_taken p v params r some;
}

pub take_keeps : (e : End) (out : List ℕ) → end_keeps e ≡ true → end_keeps (taken e out) ≡ true
take_keeps e out h = go (cases_eq (passed e.vr) 0) (cases_lt (length out) (length (first_message e.params e.vr)))
  where
    ruled : judged e ≡ Ok tt
    ruled = rw h refl

    go : ((passed e.vr ≡ 0) ⊎ (passed e.vr ≢ 0)) → ((length out < length (first_message e.params e.vr)) ⊎ (length (first_message e.params e.vr) ≤ length out)) → end_keeps (taken e out) ≡ true
    go (inl a) _ = rw (ruled, eq-eqb (passed e.vr) 0 a) h
    go (inr a) (inl b) = rw (ruled, ne_eqb (passed e.vr) 0 a, lt-ltb (length out) (length (first_message e.params e.vr)) b) h
    go (inr a) (inr b) =
        let facts = ready e h in
        rw (ruled, ne_eqb (passed e.vr) 0 a, le-ltb (length out) (length (first_message e.params e.vr)) b)
        (vr_changed e (take_once e.params e.vr) h (take_vr e.params e.vr facts.params facts.vr (omega arith)))
