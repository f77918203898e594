-- An opened end keeps the rules of 17.
use Rattle.std.proofs.Common.{◌≡◌, ℕ, ◌*◌, ◌<◌, ◌≤◌, length, take, drop, map, replicate, Bool, true, false, ◌&&◌, refl, ◌∙◌, arith}
use Rattle.std.proofs.lemmas.Bool.{leb-true, ltb-true, le-leb}
use Rattle.std.proofs.lemmas.Bool.Decides.{nat_tests}
use Rattle.std.proofs.lemmas.Grind.{common_steps}
use Rattle.std.proofs.lemmas.List.{take_at, length-take-le, length-replicate, get_or-replicate, length-map, get_or-map}
use Rattle.numbers.specs.Counting.{onward}
use Rattle.numbers.specs.Numbers.{modulus, seq_nos}
use Rattle.numbers.specs.Counted.{is_in_range}
use Rattle.std.specs.Prelude.{nat_le}
use Rattle.numbers.specs.declared.seq.SeqNo.{SeqNo}
use Rattle.numbers.proofs.Laws.{onward-lt, ahead_self, ahead_by}
use Rattle.end.specs.Rules.{params_keep, vt_room, vr_room, end_keeps}
use Rattle.end.specs.Ready.{IsInRange, IsReadyVt, IsReadyVr}
use Rattle.end.specs.Opening.{unmarked, opened_vt, opened_vr, can_open, opened}
use Rattle.end.specs.declared.params.Params.{Params}
use Rattle.end.specs.declared.transmitter.Transmitter.{Transmitter}
use Rattle.end.specs.declared.receiver.Receiver.{Receiver}
use Rattle.end.specs.declared.whole.End.{End}
use Rattle.end.proofs.Readiness.{in_range, tests}
use Rattle.end.proofs.Rings.{entries_from, marks_from}

opened_ready_vt : (p : Params) (n : SeqNo) (g : ℕ) (v : Transmitter) → IsInRange p → n.0 < modulus → g ≤ 1024 → p.keep ≤ length v.entries.now → p.keep * p.longest ≤ length v.bytes.now → IsReadyVt p (opened_vt p n g v)
opened_ready_vt p n g v params hn hg a b = record {
  entries_long = grind (arith, common_steps);
  bytes_long = b;
  s = hn;
  a = hn;
  ms = onward-lt modulus (omega arith) n.0 g;
  ps = hn;
  pa = onward-lt modulus (omega arith) n.0 1;
  kept = omega arith;
  sent_kept = rw (ahead_self modulus (omega arith) n.0 hn) (omega arith);
  first = params.some_keep;
  few_outstanding = rw (ahead_self modulus (omega arith) (onward modulus n.0 1) (onward-lt modulus (omega arith) n.0 1)) (omega arith);
  pd = omega arith;
  each =
      let long : length (map unmarked (take p.keep v.entries.now)) ≡ p.keep = length-map (take p.keep v.entries.now) unmarked ∙ length-take-le p.keep v.entries.now a in
      rw (take_at (map unmarked (take p.keep v.entries.now)) (drop p.keep v.entries.now) p.keep long, ahead_self modulus (omega arith) n.0 hn)
      (entries_from p.longest 0 0 0 (map unmarked (take p.keep v.entries.now)) (λ slot d l.
      rw (get_or-map unmarked (take p.keep v.entries.now) slot d d (omega (arith, length-map (take p.keep v.entries.now) unmarked))) (grind (arith, nat_tests))));
}

opened_ready_vr : (p : Params) (n : SeqNo) (v : Receiver) → IsInRange p → n.0 < modulus → p.credit ≤ length v.marks.now → p.credit ≤ length v.lengths.now → p.credit * p.longest ≤ length v.bytes.now → IsReadyVr p (opened_vr p n v)
opened_ready_vr p n v params hn a b d = record {
  marks_long = grind (arith, common_steps);
  lengths_long = b;
  bytes_long = d;
  t = hn;
  r = hn;
  h = hn;
  mr = onward-lt modulus (omega arith) n.0 p.credit;
  passed_seen = omega arith;
  seen_credit = rw (ahead_self modulus (omega arith) n.0 hn) (omega arith);
  window = let few = params.credit in ahead_by modulus (omega arith) n.0 p.credit hn (omega arith);
  head = params.some_credit;
  each =
      let long : length (replicate {A = ℕ} p.credit 0) ≡ p.credit = length-replicate p.credit 0 in
      let long_lengths : length (take p.credit v.lengths.now) ≡ p.credit = length-take-le p.credit v.lengths.now b in
      rw (take_at (replicate p.credit 0) (drop p.credit v.marks.now) p.credit long, ahead_self modulus (omega arith) n.0 hn)
      (marks_from p.longest 0 0 0 (replicate p.credit 0) (take p.credit v.lengths.now) (omega arith) (λ slot l.
      rw (get_or-replicate {A = ℕ} p.credit slot 0 0 (omega (arith, long))) (le-leb 0 _ (omega arith))));
}

five : (a b c d e : Bool) → (a && b && c && d && e) ≡ true → (a ≡ true) × (b ≡ true) × (c ≡ true) × (d ≡ true) × (e ≡ true)
five true true true true true h = (refl, refl, refl, refl, refl)
five false b c d e h = absurd cc
five true false c d e h = absurd cc
five true true false d e h = absurd cc
five true true true false e h = absurd cc
five true true true true false h = absurd cc

room_facts_vt : (p : Params) (v : Transmitter) → vt_room p v ≡ true → (p.keep ≤ length v.entries.now) × (p.keep * p.longest ≤ length v.bytes.now)
room_facts_vt p v h = (grind (arith, nat_tests), grind (arith, nat_tests))

room_facts_vr : (p : Params) (v : Receiver) → vr_room p v ≡ true → (p.credit ≤ length v.marks.now) × (p.credit ≤ length v.lengths.now) × (p.credit * p.longest ≤ length v.bytes.now)
room_facts_vr p v h = (grind (arith, nat_tests), grind (arith, nat_tests), grind (arith, nat_tests))

pub opened_keeps : (e : End) (n : SeqNo) (g : ℕ) → can_open e n g ≡ true → end_keeps (opened e n g) ≡ true
opened_keeps e n g h =
    let (a, b, c, d, f) = five (params_keep e.params) (vt_room e.params e.vt) (vr_room e.params e.vr) (is_in_range seq_nos n) (nat_le g 1024) h in
    let params = in_range e.params a in
    let (x, y) = room_facts_vt e.params e.vt b in
    let (z, w, u) = room_facts_vr e.params e.vr c in
    let hn : n.0 < modulus = ltb-true n.0 modulus d in
    rw h (tests (record e { running = 1; vt = opened_vt e.params n g e.vt; vr = opened_vr e.params n e.vr }) (record {
      params = params;
      vt = opened_ready_vt e.params n g e.vt params hn (leb-true g 1024 f) x y;
      vr = opened_ready_vr e.params n e.vr params hn z w u;
      running = omega arith;
    }))
