-- What a call may count on where 17 doesn't refuse it: the rules as facts.
use Rattle.std.specs.Prelude.{◌≡◌, true, ◌*◌, ◌%◌, ◌≤◌, ◌<◌, length, take}
use Rattle.numbers.specs.Numbers.{modulus, seq_nos}
use Rattle.numbers.specs.Counted.{ahead_in}
use Rattle.end.specs.Rules.{sent, outstanding, passed, seen, entries_keep, marks_keep}
use Rattle.end.specs.declared.params.Params.{Params}
use Rattle.end.specs.declared.transmitter.Transmitter.{Transmitter}
use Rattle.end.specs.declared.receiver.Receiver.{Receiver}
use Rattle.end.specs.declared.whole.End.{End}

pub record IsInRange (p : Params) : Type 0 where
  pub some_credit : 1 ≤ p.credit
  pub credit : p.credit ≤ 1024
  pub some_keep : 1 ≤ p.keep
  pub keep : p.keep ≤ 1024
  pub longest : p.longest ≤ 4096
  pub some_maxstat : 3 ≤ p.maxstat
  pub maxstat : p.maxstat ≤ 67
  pub odd : p.maxstat % 2 ≡ 1
  pub some_maxpd : 1 ≤ p.maxpd
  pub maxpd : p.maxpd ≤ 1024

pub record IsReadyVt (p : Params) (v : Transmitter) : Type 0 where
  pub entries_long : p.keep ≤ length v.entries.now
  pub bytes_long : p.keep * p.longest ≤ length v.bytes.now
  pub s : v.s.0 < modulus
  pub a : v.a.0 < modulus
  pub ms : v.ms.0 < modulus
  pub ps : v.ps.0 < modulus
  pub pa : v.pa.0 < modulus
  pub kept : v.kept ≤ p.keep
  pub sent_kept : sent v ≤ v.kept
  pub first : v.first < p.keep
  pub few_outstanding : outstanding v ≤ 8388607
  pub pd : v.pd ≤ p.maxpd
  pub each : entries_keep p.longest (sent v) v.kept v.first (take p.keep v.entries.now) ≡ true

pub record IsReadyVr (p : Params) (v : Receiver) : Type 0 where
  pub marks_long : p.credit ≤ length v.marks.now
  pub lengths_long : p.credit ≤ length v.lengths.now
  pub bytes_long : p.credit * p.longest ≤ length v.bytes.now
  pub t : v.t.0 < modulus
  pub r : v.r.0 < modulus
  pub h : v.h.0 < modulus
  pub mr : v.mr.0 < modulus
  pub passed_seen : passed v ≤ seen v
  pub seen_credit : seen v ≤ p.credit
  pub window : ahead_in seq_nos v.mr v.t ≡ p.credit
  pub head : v.head < p.credit
  pub each : marks_keep p.longest (passed v) (seen v) v.head (take p.credit v.marks.now) (take p.credit v.lengths.now) ≡ true

pub record IsReady (e : End) : Type 0 where
  pub params : IsInRange e.params
  pub vt : IsReadyVt e.params e.vt
  pub vr : IsReadyVr e.params e.vr
  pub running : e.running ≤ 1
