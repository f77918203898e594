-- The tests of 17, once passed, as facts.
use Rattle.std.proofs.Common.{◌≡◌, Bool, true, false, ◌&&◌, ◌*◌, ◌%◌, length, refl, arith}
use Rattle.std.specs.Prelude.{nat_le}
use Rattle.std.proofs.lemmas.Bool.Decides.{nat_tests}
use Rattle.std.proofs.lemmas.Bool.{leb-true, le-leb, lt-ltb, eq-eqb}
use Rattle.numbers.specs.Numbers.{modulus, seq_nos}
use Rattle.numbers.specs.Counted.{ahead_in}
use Rattle.end.specs.Rules.{sent, outstanding, passed, seen, params_keep, vt_room, vr_room, vt_keeps, vr_keeps, end_keeps}
use Rattle.end.specs.Ready.{IsInRange, IsReadyVt, IsReadyVr, IsReady}
use Rattle.end.specs.declared.params.Params.{Params}
use Rattle.end.specs.declared.transmitter.Transmitter.{Transmitter}
use Rattle.end.specs.declared.receiver.Receiver.{Receiver}
use Rattle.end.specs.declared.whole.End.{End}

pub in_range : (p : Params) → params_keep p ≡ true → IsInRange p
in_range p h = record {
  some_credit = grind (arith, nat_tests);
  credit = grind (arith, nat_tests);
  some_keep = grind (arith, nat_tests);
  keep = grind (arith, nat_tests);
  longest = grind (arith, nat_tests);
  some_maxstat = grind (arith, nat_tests);
  maxstat = grind (arith, nat_tests);
  odd = grind (arith, nat_tests);
  some_maxpd = grind (arith, nat_tests);
  maxpd = grind (arith, nat_tests);
}

ready_vt : (p : Params) (v : Transmitter) → vt_room p v ≡ true → vt_keeps p v ≡ true → IsReadyVt p v
ready_vt p v r h = record {
  entries_long = grind (arith, nat_tests);
  bytes_long = grind (arith, nat_tests);
  s = grind (arith, nat_tests);
  a = grind (arith, nat_tests);
  ms = grind (arith, nat_tests);
  ps = grind (arith, nat_tests);
  pa = grind (arith, nat_tests);
  kept = grind (arith, nat_tests);
  sent_kept = grind (arith, nat_tests);
  first = grind (arith, nat_tests);
  few_outstanding = grind (arith, nat_tests);
  pd = grind (arith, nat_tests);
  each = grind (arith, nat_tests);
}

ready_vr : (p : Params) (v : Receiver) → vr_room p v ≡ true → vr_keeps p v ≡ true → IsReadyVr p v
ready_vr p v r h = record {
  marks_long = grind (arith, nat_tests);
  lengths_long = grind (arith, nat_tests);
  bytes_long = grind (arith, nat_tests);
  t = grind (arith, nat_tests);
  r = grind (arith, nat_tests);
  h = grind (arith, nat_tests);
  mr = grind (arith, nat_tests);
  passed_seen = grind (arith, nat_tests);
  seen_credit = grind (arith, nat_tests);
  window = grind (arith, nat_tests);
  head = grind (arith, nat_tests);
  each = grind (arith, nat_tests);
}

six : (a b c d e f : Bool) → (a && b && c && d && e && f) ≡ true → (a ≡ true) × (b ≡ true) × (c ≡ true) × (d ≡ true) × (e ≡ true) × (f ≡ true)
six true true true true true true h = (refl, refl, refl, refl, refl, refl)
six false b c d e f h = absurd cc
six true false c d e f h = absurd cc
six true true false d e f h = absurd cc
six true true true false e f h = absurd cc
six true true true true false f h = absurd cc
six true true true true true false h = absurd cc

pub ready : (e : End) → end_keeps e ≡ true → IsReady e
ready e h =
    let (a, b, c, d, f, g) = six (params_keep e.params) (vt_room e.params e.vt) (vr_room e.params e.vr) (nat_le e.running 1) (vt_keeps e.params e.vt) (vr_keeps e.params e.vr) h in
    record {
      params = in_range e.params a;
      vt = ready_vt e.params e.vt b f;
      vr = ready_vr e.params e.vr c g;
      running = leb-true e.running 1 d;
    }

-- ---- and the facts give the tests back

range_tests : (p : Params) → IsInRange p → params_keep p ≡ true
range_tests p r = rw (le-leb 1 p.credit r.some_credit, le-leb p.credit 1024 r.credit, le-leb 1 p.keep r.some_keep, le-leb p.keep 1024 r.keep, le-leb p.longest 4096 r.longest, le-leb 3 p.maxstat r.some_maxstat, le-leb p.maxstat 67 r.maxstat, eq-eqb (p.maxstat % 2) 1 r.odd, le-leb 1 p.maxpd r.some_maxpd, le-leb p.maxpd 1024 r.maxpd) refl

vt_room_tests : (p : Params) (v : Transmitter) → IsReadyVt p v → vt_room p v ≡ true
vt_room_tests p v r = rw (le-leb p.keep (length v.entries.now) r.entries_long, le-leb (p.keep * p.longest) (length v.bytes.now) r.bytes_long) refl

vt_tests : (p : Params) (v : Transmitter) → IsReadyVt p v → vt_keeps p v ≡ true
vt_tests p v r = rw (lt-ltb v.s.0 modulus r.s, lt-ltb v.a.0 modulus r.a, lt-ltb v.ms.0 modulus r.ms, lt-ltb v.ps.0 modulus r.ps, lt-ltb v.pa.0 modulus r.pa, le-leb v.kept p.keep r.kept, le-leb (sent v) v.kept r.sent_kept, lt-ltb v.first p.keep r.first, le-leb (outstanding v) 8388607 r.few_outstanding, le-leb v.pd p.maxpd r.pd) r.each

vr_room_tests : (p : Params) (v : Receiver) → IsReadyVr p v → vr_room p v ≡ true
vr_room_tests p v r = rw (le-leb p.credit (length v.marks.now) r.marks_long, le-leb p.credit (length v.lengths.now) r.lengths_long, le-leb (p.credit * p.longest) (length v.bytes.now) r.bytes_long) refl

vr_tests : (p : Params) (v : Receiver) → IsReadyVr p v → vr_keeps p v ≡ true
vr_tests p v r = rw (lt-ltb v.t.0 modulus r.t, lt-ltb v.r.0 modulus r.r, lt-ltb v.h.0 modulus r.h, lt-ltb v.mr.0 modulus r.mr, le-leb (passed v) (seen v) r.passed_seen, le-leb (seen v) p.credit r.seen_credit, eq-eqb (ahead_in seq_nos v.mr v.t) p.credit r.window, lt-ltb v.head p.credit r.head) r.each

pub tests : (e : End) → IsReady e → end_keeps e ≡ true
tests e r = rw (range_tests e.params r.params, vt_room_tests e.params e.vt r.vt, vr_room_tests e.params e.vr r.vr, le-leb e.running 1 r.running, vt_tests e.params e.vt r.vt, vr_tests e.params e.vr r.vr) refl

-- an end whose transmitter alone changed, and keeps the rules
pub vt_changed : (e : End) (v : Transmitter) → end_keeps e ≡ true → IsReadyVt e.params v → end_keeps (record e { vt = v }) ≡ true
vt_changed e v h r =
    let facts = ready e h in
    tests (record e { vt = v }) (record { params = facts.params; vt = r; vr = facts.vr; running = facts.running })

-- an end whose receiver alone changed, and keeps the rules
pub vr_changed : (e : End) (v : Receiver) → end_keeps e ≡ true → IsReadyVr e.params v → end_keeps (record e { vr = v }) ≡ true
vr_changed e v h r =
    let facts = ready e h in
    tests (record e { vr = v }) (record { params = facts.params; vt = facts.vt; vr = r; running = facts.running })
