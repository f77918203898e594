-- Each step of the transmitter keeps the rules of 17.
use Rattle.std.proofs.Common.{◌≡◌, ◌≢◌, ◌⊎◌, inl, inr, ℕ, zero, suc, ◌+◌, ◌*◌, ◌<◌, ◌≤◌, List, [], ◌∷◌, length, take, get_or, Bool, true, false, sym, ap, refl, ◌∙◌, arith}
use Rattle.std.specs.Prelude.{Result, Ok, Err, Option, Some, None, find}
use Rattle.std.specs.List.{range_with_len}
use Rattle.std.proofs.lemmas.Bool.{cases_eq, cases_lt, eq-eqb, ne_eqb, lt-ltb, le-ltb}
use Rattle.std.proofs.lemmas.Bool.Decides.{nat_tests}
use Rattle.std.proofs.lemmas.Grind.{common_steps}
use Rattle.std.proofs.lemmas.List.{get_or-take, length-take-le}
use Rattle.numbers.specs.Counting.{onward, ahead}
use Rattle.numbers.proofs.Laws.{onward-lt, ahead_more}
use Rattle.numbers.specs.Numbers.{modulus}
use Rattle.pdu.specs.Layout.{write_at}
use Rattle.end.specs.Ring.{place}
use Rattle.end.specs.Rules.{sent, outstanding, entry_keeps, entries_keep, end_keeps, judged}
use Rattle.end.specs.Ready.{IsInRange, IsReadyVt}
use Rattle.end.proofs.Rings.{entry_at, entries_from, place-onward, onward-place, place-lt}
use Rattle.end.proofs.Slots.{slot_room}
use Rattle.end.proofs.Readiness.{ready, vt_changed}
use Rattle.end.specs.declared.params.Params.{Params}
use Rattle.end.specs.declared.transmitter.Kept.{Kept}
use Rattle.end.specs.declared.transmitter.Transmitter.{Transmitter}
use Rattle.end.specs.declared.whole.End.{End}
use Rattle.transmit.specs.Store.{change_at, with_length}
use Rattle.transmit.specs.Submit.{keep_message, submitted}
use Rattle.transmit.specs.Polling.{poll_once, poll_pdu, polled}
use Rattle.transmit.specs.Sending.{waits, credit, next_message, lowest_waiting, send_once, sent_end, stamped, sd_of}
use Rattle.pdu.specs.declared.refusal.Refusal.{Refusal}
use Rattle.pdu.specs.declared.refusal.Refusal.TheVariants.{NothingToSend, NoCredit}

-- ---- a change of one entry

pub length-change_at : {X : Type 0} (f : X → X) (i : ℕ) (xs : List X) → length (change_at f i xs) ≡ length xs
length-change_at f i [] = refl
length-change_at f zero (x ∷ xs) = refl
length-change_at f (suc i) (x ∷ xs) = ap suc (length-change_at f i xs)

pub get_or-change_at_same : {X : Type 0} (f : X → X) (i : ℕ) (xs : List X) (d : X) → i < length xs → get_or (change_at f i xs) i d ≡ f (get_or xs i d)
get_or-change_at_same f i [] d h = absurd (omega arith)
get_or-change_at_same f zero (x ∷ xs) d h = refl
get_or-change_at_same f (suc i) (x ∷ xs) d h = get_or-change_at_same f i xs d (omega arith)

pub get_or-change_at_other : {X : Type 0} (f : X → X) (i j : ℕ) (xs : List X) (d : X) → j ≢ i → get_or (change_at f i xs) j d ≡ get_or xs j d
get_or-change_at_other f i j [] d h = refl
get_or-change_at_other f zero zero (x ∷ xs) d h = absurd (h refl)
get_or-change_at_other f zero (suc j) (x ∷ xs) d h = refl
get_or-change_at_other f (suc i) zero (x ∷ xs) d h = refl
get_or-change_at_other f (suc i) (suc j) (x ∷ xs) d h = get_or-change_at_other f i j xs d (λ e. h (ap suc e))

-- the ring after a change of the entry of message i keeps the rules for new counts, where each entry keeps its rule
pub entries_changed : (p : Params) (v : Transmitter) (f : Kept → Kept) (i sent' kept' : ℕ) → IsReadyVt p v → i < p.keep
    → ((j : ℕ) (e : Kept) → j < p.keep → j ≢ i → entry_keeps p.longest (sent v) v.kept j e ≡ true → entry_keeps p.longest sent' kept' j e ≡ true)
    → ((e : Kept) → entry_keeps p.longest (sent v) v.kept i e ≡ true → entry_keeps p.longest sent' kept' i (f e) ≡ true)
    → entries_keep p.longest sent' kept' v.first (take p.keep (change_at f (onward p.keep v.first i) v.entries.now)) ≡ true
entries_changed p v f i sent' kept' ready h others here =
    entries_from p.longest sent' kept' v.first (take p.keep (change_at f (onward p.keep v.first i) v.entries.now)) (λ slot d l. each slot d (omega (arith, long)) (cases_eq slot (onward p.keep v.first i)))
  where
    long : length (take p.keep (change_at f (onward p.keep v.first i) v.entries.now)) ≡ p.keep
    long = length-take-le p.keep (change_at f (onward p.keep v.first i) v.entries.now) (omega (arith, ready.entries_long, length-change_at f (onward p.keep v.first i) v.entries.now))

    long_before : length (take p.keep v.entries.now) ≡ p.keep
    long_before = length-take-le p.keep v.entries.now ready.entries_long

    rule_before : (slot : ℕ) (d : Kept) → slot < p.keep → entry_keeps p.longest (sent v) v.kept (place v.first p.keep slot) (get_or v.entries.now slot d) ≡ true
    rule_before slot d l =
        rw (long_before, get_or-take p.keep v.entries.now slot d l) at (entry_at p.longest (sent v) v.kept v.first (take p.keep v.entries.now) slot d ready.each (omega (arith, long_before)))

    each : (slot : ℕ) (d : Kept) → slot < p.keep → ((slot ≡ onward p.keep v.first i) ⊎ (slot ≢ onward p.keep v.first i)) → entry_keeps p.longest sent' kept' (place v.first (length (take p.keep (change_at f (onward p.keep v.first i) v.entries.now))) slot) (get_or (take p.keep (change_at f (onward p.keep v.first i) v.entries.now)) slot d) ≡ true
    each slot d l (inl e) =
        let long_entries = ready.entries_long in
        let its_place : place v.first p.keep slot ≡ i = rw e (place-onward p.keep v.first i ready.first h) in
        let new : get_or (change_at f (onward p.keep v.first i) v.entries.now) slot d ≡ f (get_or v.entries.now slot d) = rw (← e) (get_or-change_at_same f slot v.entries.now d (omega arith)) in
        rw (long, get_or-take p.keep (change_at f (onward p.keep v.first i) v.entries.now) slot d l, new, its_place) (here (get_or v.entries.now slot d) (rw its_place at (rule_before slot d l)))
    each slot d l (inr n) =
        let old : get_or (change_at f (onward p.keep v.first i) v.entries.now) slot d ≡ get_or v.entries.now slot d = get_or-change_at_other f (onward p.keep v.first i) slot v.entries.now d n in
        let other : place v.first p.keep slot ≢ i = λ q. n (sym (onward-place p.keep v.first slot ready.first l) ∙ ap (onward p.keep v.first) q) in
        rw (long, get_or-take p.keep (change_at f (onward p.keep v.first i) v.entries.now) slot d l, old) (others (place v.first p.keep slot) (get_or v.entries.now slot d) (place-lt p.keep v.first slot ready.first l) other (rule_before slot d l))

-- ---- submit

length-write_at : (i : ℕ) (ys xs : List ℕ) → i + length ys ≤ length xs → length (write_at i ys xs) ≡ length xs
length-write_at i ys xs h = grind (arith, common_steps)

submit_vt : (p : Params) (message : List ℕ) (v : Transmitter) → IsInRange p → IsReadyVt p v → v.kept < p.keep → length message ≤ p.longest → IsReadyVt p (keep_message p message v)
submit_vt p message v params ready free short = record {
  entries_long = let long = ready.entries_long in rw length-change_at long;
  bytes_long =
      let slot = onward p.keep v.first v.kept in
      let room = slot_room slot p.keep p.longest (length message) (length v.bytes.now) (onward-lt p.keep (omega arith) v.first v.kept) params.keep params.longest short ready.bytes_long in
      let same = length-write_at (slot * p.longest) message v.bytes.now room.0 in
      rw same ready.bytes_long;
  s = ready.s;
  a = ready.a;
  ms = ready.ms;
  ps = ready.ps;
  pa = ready.pa;
  kept = omega arith;
  sent_kept = let before = ready.sent_kept in omega arith;
  first = ready.first;
  few_outstanding = ready.few_outstanding;
  pd = ready.pd;
  each = entries_changed p v (with_length (length message)) v.kept (sent v) (v.kept + 1) ready free
      (λ j e l n rule. grind (arith, nat_tests))
      (λ e rule. let before = ready.sent_kept in grind (arith, nat_tests));
}

pub submit_keeps : (e : End) (message : List ℕ) → end_keeps e ≡ true → end_keeps (submitted e message) ≡ true
submit_keeps e message h = go (cases_eq e.running 0) (cases_lt e.params.longest (length message)) (cases_eq e.vt.kept e.params.keep)
  where
    ruled : judged e ≡ Ok tt
    ruled = rw h refl

    go : ((e.running ≡ 0) ⊎ (e.running ≢ 0)) → ((e.params.longest < length message) ⊎ (length message ≤ e.params.longest)) → ((e.vt.kept ≡ e.params.keep) ⊎ (e.vt.kept ≢ e.params.keep)) → end_keeps (submitted e message) ≡ true
    go (inl a) _ _ = rw (ruled, eq-eqb e.running 0 a) h
    go (inr a) (inl b) _ = rw (ruled, ne_eqb e.running 0 a, lt-ltb e.params.longest (length message) b) h
    go (inr a) (inr b) (inl c) = rw (ruled, ne_eqb e.running 0 a, le-ltb e.params.longest (length message) b, eq-eqb e.vt.kept e.params.keep c) h
    go (inr a) (inr b) (inr c) =
        let facts = ready e h in
        let kept = facts.vt.kept in
        rw (ruled, ne_eqb e.running 0 a, le-ltb e.params.longest (length message) b, ne_eqb e.vt.kept e.params.keep c)
        (vt_changed e (keep_message e.params message e.vt) h (submit_vt e.params message e.vt facts.params facts.vt (omega arith) b))

-- ---- poll

poll_vt : (p : Params) (v : Transmitter) → IsReadyVt p v → outstanding v ≢ 8388607 → IsReadyVt p (poll_once v)
poll_vt p v r free = record {
  entries_long = r.entries_long;
  bytes_long = r.bytes_long;
  s = r.s;
  a = r.a;
  ms = r.ms;
  ps = onward-lt modulus (omega arith) v.ps.0 1;
  pa = r.pa;
  kept = r.kept;
  sent_kept = r.sent_kept;
  first = r.first;
  few_outstanding =
      let few = r.few_outstanding in
      let one_more : outstanding (poll_once v) ≡ outstanding v + 1 = ahead_more modulus (omega arith) (onward modulus v.ps.0 1) v.pa.0 1 (onward-lt modulus (omega arith) v.ps.0 1) r.pa (omega arith) in
      omega arith;
  pd = omega arith;
  each = r.each;
}

pub poll_keeps : (e : End) (out : List ℕ) → end_keeps e ≡ true → end_keeps (polled e out) ≡ true
poll_keeps e out h = go (cases_eq e.running 0) (cases_eq (outstanding e.vt) 8388607) (cases_lt (length out) (length (poll_pdu e)))
  where
    ruled : judged e ≡ Ok tt
    ruled = rw h refl

    go : ((e.running ≡ 0) ⊎ (e.running ≢ 0)) → ((outstanding e.vt ≡ 8388607) ⊎ (outstanding e.vt ≢ 8388607)) → ((length out < length (poll_pdu e)) ⊎ (length (poll_pdu e) ≤ length out)) → end_keeps (polled e out) ≡ true
    go (inl a) _ _ = rw (ruled, eq-eqb e.running 0 a) h
    go (inr a) (inl b) _ = rw (ruled, ne_eqb e.running 0 a, eq-eqb (outstanding e.vt) 8388607 b) h
    go (inr a) (inr b) (inl c) = rw (ruled, ne_eqb e.running 0 a, ne_eqb (outstanding e.vt) 8388607 b, lt-ltb (length out) (length (poll_pdu e)) c) h
    go (inr a) (inr b) (inr c) =
        let facts = ready e h in
        rw (ruled, ne_eqb e.running 0 a, ne_eqb (outstanding e.vt) 8388607 b, le-ltb (length out) (length (poll_pdu e)) c)
        (vt_changed e (poll_once e.vt) h (poll_vt e.params e.vt facts.vt b))

-- ---- send

find_below : (f : ℕ → Bool) (a n i : ℕ) → find f (range_with_len a n) ≡ Some i → i < a + n
find_below f a zero i e = absurd cc
find_below f a (suc n) i e = go (f a) refl (find_below f (a + 1) n i)
  where
    go : (b : Bool) → f a ≡ b → (find f (range_with_len (a + 1) n) ≡ Some i → i < a + 1 + n) → i < a + suc n
    go true q later = let here : Some a ≡ Some i = rw q at e in let same : a ≡ i = cc in omega arith
    go false q later = let below : i < a + 1 + n = later (rw q at e) in omega arith

-- the message to send is a kept one, and either sent or the next unsent one
next_kept : (p : Params) (v : Transmitter) (i : ℕ) → IsReadyVt p v → next_message p v ≡ Ok i → (i ≤ sent v) × (i < v.kept)
next_kept p v i r e = go (lowest_waiting p v) refl (cases_eq (sent v) v.kept) (cases_lt (sent v) (credit v))
  where
    go : (o : Option ℕ) → lowest_waiting p v ≡ o → ((sent v ≡ v.kept) ⊎ (sent v ≢ v.kept)) → ((sent v < credit v) ⊎ (credit v ≤ sent v)) → (i ≤ sent v) × (i < v.kept)
    go (Some j) q _ _ =
        let ok : ℕ → Result ℕ Refusal = λ x. Ok x in
        let same : ok j ≡ ok i = rw q at e in
        let equal : j ≡ i = cc in
        let below : j < 0 + sent v = find_below (waits p v) 0 (sent v) j q in
        let kept = r.sent_kept in
        (omega arith, omega arith)
    go None q (inl a) _ = let no : Err NothingToSend ≡ Ok i = rw (q, eq-eqb (sent v) v.kept a) at e in absurd cc
    go None q (inr a) (inl b) =
        let ok : ℕ → Result ℕ Refusal = λ x. Ok x in
        let same : ok (sent v) ≡ ok i = rw (q, ne_eqb (sent v) v.kept a, lt-ltb (sent v) (credit v) b) at e in
        let equal : sent v ≡ i = cc in
        let kept = r.sent_kept in
        (omega arith, omega arith)
    go None q (inr a) (inr b) = let no : Err NoCredit ≡ Ok i = rw (q, ne_eqb (sent v) v.kept a, le-ltb (sent v) (credit v) b) at e in absurd cc

send_vt : (p : Params) (v : Transmitter) (i : ℕ) → IsInRange p → IsReadyVt p v → i ≤ sent v → i < v.kept → v.pd < p.maxpd → IsReadyVt p (send_once p i v)
send_vt p v i params r in_sent in_kept pd = go (cases_eq i (sent v))
  where
    long : p.keep ≤ length (change_at (stamped v.ps) (onward p.keep v.first i) v.entries.now)
    long = let before = r.entries_long in rw length-change_at before

    one_more : i ≡ sent v → ahead modulus (onward modulus v.s.0 1) v.a.0 ≡ sent v + 1
    one_more e = let few = r.kept in let some = params.keep in ahead_more modulus (omega arith) v.s.0 v.a.0 1 r.s r.a (omega arith)

    go : ((i ≡ sent v) ⊎ (i ≢ sent v)) → IsReadyVt p (send_once p i v)
    go (inl e) = rw (eq-eqb i (sent v) e) (record {
      entries_long = long;
      bytes_long = r.bytes_long;
      s = onward-lt modulus (omega arith) v.s.0 1;
      a = r.a;
      ms = r.ms;
      ps = r.ps;
      pa = r.pa;
      kept = r.kept;
      sent_kept = rw (one_more e) (omega arith);
      first = r.first;
      few_outstanding = r.few_outstanding;
      pd = omega arith;
      each = rw (one_more e) (entries_changed p v (stamped v.ps) i (sent v + 1) v.kept r (let kept = r.kept in omega arith)
          (λ j x l m rule. grind (arith, nat_tests))
          (λ x rule. let ps = r.ps in grind (arith, nat_tests)));
    })
    go (inr n) = rw (ne_eqb i (sent v) n) (record {
      entries_long = long;
      bytes_long = r.bytes_long;
      s = r.s;
      a = r.a;
      ms = r.ms;
      ps = r.ps;
      pa = r.pa;
      kept = r.kept;
      sent_kept = r.sent_kept;
      first = r.first;
      few_outstanding = r.few_outstanding;
      pd = omega arith;
      each = entries_changed p v (stamped v.ps) i (sent v) v.kept r (let kept = r.kept in omega arith)
          (λ j x l m rule. rule)
          (λ x rule. let ps = r.ps in grind (arith, nat_tests));
    })

pub send_keeps : (e : End) (out : List ℕ) → end_keeps e ≡ true → end_keeps (sent_end e out) ≡ true
send_keeps e out h = go (cases_eq e.running 0) (next_message e.params e.vt) refl
  where
    ruled : judged e ≡ Ok tt
    ruled = rw h refl

    this : (i : ℕ) → next_message e.params e.vt ≡ Ok i → e.running ≢ 0 → ((e.vt.pd ≡ e.params.maxpd) ⊎ (e.vt.pd ≢ e.params.maxpd)) → ((length out < length (sd_of e.params e.vt i)) ⊎ (length (sd_of e.params e.vt i) ≤ length out)) → end_keeps (sent_end e out) ≡ true
    this i q a (inl b) _ = rw (ruled, ne_eqb e.running 0 a, q, eq-eqb e.vt.pd e.params.maxpd b) h
    this i q a (inr b) (inl c) = rw (ruled, ne_eqb e.running 0 a, q, ne_eqb e.vt.pd e.params.maxpd b, lt-ltb (length out) (length (sd_of e.params e.vt i)) c) h
    this i q a (inr b) (inr c) =
        let facts = ready e h in
        let pd = facts.vt.pd in
        let (in_sent, in_kept) = next_kept e.params e.vt i facts.vt q in
        rw (ruled, ne_eqb e.running 0 a, q, ne_eqb e.vt.pd e.params.maxpd b, le-ltb (length out) (length (sd_of e.params e.vt i)) c)
        (vt_changed e (send_once e.params i e.vt) h (send_vt e.params e.vt i facts.params facts.vt in_sent in_kept (omega arith)))

    go : ((e.running ≡ 0) ⊎ (e.running ≢ 0)) → (m : Result ℕ Refusal) → next_message e.params e.vt ≡ m → end_keeps (sent_end e out) ≡ true
    go (inl a) m q = rw (ruled, eq-eqb e.running 0 a) h
    go (inr a) (Err r) q = rw (ruled, ne_eqb e.running 0 a, q) h
    go (inr a) (Ok i) q = this i q a (cases_eq e.vt.pd e.params.maxpd) (cases_lt (length out) (length (sd_of e.params e.vt i)))
