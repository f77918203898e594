-- Answer 17: "the parameters or the lent state break a rule of this page". Each test stands beside its words in docs/RULES.md, "17 checks".
use Rattle.std.specs.Prelude.{ℕ, Bool, ◌&&◌, ◌||◌, not, ◌*◌, ◌%◌, ◌==◌, nat_lt, nat_le, if◌then◌else◌, List, length, take, Result, Ok, Err}
use Rattle.std.specs.List.{list_all, enumerate_from, zip}
use Rattle.numbers.specs.Numbers.{seq_nos, poll_nos}
use Rattle.numbers.specs.Counted.{next_in, ahead_in, is_in_range}
use Rattle.pdu.specs.declared.refusal.Refusal.{Refusal}
use Rattle.pdu.specs.declared.refusal.Refusal.TheVariants.{Rules, Stopped}
use Rattle.end.specs.Ring.{place}
use Rattle.end.specs.declared.params.Params.{Params}
use Rattle.end.specs.declared.transmitter.Kept.{Kept}
use Rattle.end.specs.declared.transmitter.Transmitter.{Transmitter}
use Rattle.end.specs.declared.receiver.Receiver.{Receiver}
use Rattle.end.specs.declared.whole.End.{End}

-- "parameters in range": C 1 to 1,024; B 1 to 1,024; k 0 to 4,096; MaxSTAT odd, 3 to 67; MaxPD 1 to 1,024
abbrev pub params_keep : Params → Bool
params_keep p =
    nat_le 1 p.credit && nat_le p.credit 1024
    && (nat_le 1 p.keep && nat_le p.keep 1024)
    && nat_le p.longest 4096
    && (nat_le 3 p.maxstat && nat_le p.maxstat 67 && p.maxstat % 2 == 1)
    && (nat_le 1 p.maxpd && nat_le p.maxpd 1024)

-- ---- the transmitter

-- messages sent and not acknowledged: VT(S) is ahead of VT(A) by this
abbrev pub sent : Transmitter → ℕ
sent v = ahead_in seq_nos v.s v.a

-- "Outstanding polls = (VT(PS) − VT(PA) + 1) mod 2^24"
abbrev pub outstanding : Transmitter → ℕ
outstanding v = ahead_in poll_nos (next_in poll_nos v.ps) v.pa

-- "areas long enough"
abbrev pub vt_room : Params → Transmitter → Bool
vt_room p v = nat_le p.keep (length v.entries.now) && nat_le (p.keep * p.longest) (length v.bytes.now)

-- "numbers under 2^24; kept at most B; sent at most kept; .. outstanding polls at most 8,388,607; VT(PD) at most MaxPD"; `first` is a slot
abbrev pub vt_counts_keep : Params → Transmitter → Bool
vt_counts_keep p v =
    is_in_range seq_nos v.s && is_in_range seq_nos v.a && is_in_range seq_nos v.ms && is_in_range poll_nos v.ps && is_in_range poll_nos v.pa
    && nat_le v.kept p.keep
    && nat_le (sent v) v.kept
    && nat_lt v.first p.keep
    && nat_le (outstanding v) 8388607
    && nat_le v.pd p.maxpd

-- of message i: "numbers under 2^24" (the stamps of sent messages); "waiting marks only on sent messages; lengths of the kept .. messages at most k
-- (other entries' lengths and stamps are not looked at)"
abbrev pub entry_keeps : ℕ → ℕ → ℕ → ℕ → Kept → Bool
entry_keeps k sent kept i e = (nat_le kept i || nat_le e.length k) && (if nat_lt i sent then is_in_range poll_nos e.stamp else e.waiting == 0)

abbrev pub entries_keep : ℕ → ℕ → ℕ → ℕ → List Kept → Bool
entries_keep k sent kept first ring = list_all (λ m. entry_keeps k sent kept (place first (length ring) m.0) m.1) (enumerate_from 0 ring)

abbrev pub vt_keeps : Params → Transmitter → Bool
vt_keeps p v = vt_counts_keep p v && entries_keep p.longest (sent v) v.kept v.first (take p.keep v.entries.now)

-- ---- the receiver

-- how far VR(R) and VR(H) are ahead of T
abbrev pub passed : Receiver → ℕ
passed v = ahead_in seq_nos v.r v.t

abbrev pub seen : Receiver → ℕ
seen v = ahead_in seq_nos v.h v.t

-- "areas long enough"
abbrev pub vr_room : Params → Receiver → Bool
vr_room p v = nat_le p.credit (length v.marks.now) && nat_le p.credit (length v.lengths.now) && nat_le (p.credit * p.longest) (length v.bytes.now)

-- "numbers under 2^24; .. T to VR(R) to VR(H) to VR(MR) not falling (measured from T), VR(MR) ahead of T by C"; `head` is a slot
abbrev pub vr_counts_keep : Params → Receiver → Bool
vr_counts_keep p v =
    is_in_range seq_nos v.t && is_in_range seq_nos v.r && is_in_range seq_nos v.h && is_in_range seq_nos v.mr
    && nat_le (passed v) (seen v)
    && nat_le (seen v) p.credit
    && ahead_in seq_nos v.mr v.t == p.credit
    && nat_lt v.head p.credit

-- of message i from T: "exactly T to VR(R) − 1 and some numbers strictly between VR(R) and VR(H) marked received"; "lengths .. of the received messages
-- at most k"
abbrev pub mark_keeps : ℕ → ℕ → ℕ → ℕ → ℕ → ℕ → Bool
mark_keeps k passed seen i mark n = if mark == 0 then nat_le passed i else nat_lt i seen && not (i == passed) && nat_le n k

abbrev pub marks_keep : ℕ → ℕ → ℕ → ℕ → List ℕ → List ℕ → Bool
marks_keep k passed seen head marks lengths = list_all (λ m. mark_keeps k passed seen (place head (length marks) m.0) m.1.0 m.1.1) (enumerate_from 0 (zip marks lengths))

abbrev pub vr_keeps : Params → Receiver → Bool
vr_keeps p v = vr_counts_keep p v && marks_keep p.longest (passed v) (seen v) v.head (take p.credit v.marks.now) (take p.credit v.lengths.now)

-- ---- the whole end. The running flag is 0 or 1

abbrev pub end_keeps : End → Bool
end_keeps e =
    params_keep e.params
    && vt_room e.params e.vt
    && vr_room e.params e.vr
    && nat_le e.running 1
    && vt_keeps e.params e.vt
    && vr_keeps e.params e.vr

-- ---- what stands first in the order of every call

-- a call's answer: what refuses it first, or else this
abbrev pub unless_refused : {T : Type 0} → Result Unit Refusal → Result T Refusal → Result T Refusal
unless_refused (Ok u) answer = answer
unless_refused (Err e) answer = Err e

-- 17
abbrev pub judged : End → Result Unit Refusal
judged e = if end_keeps e then Ok tt else Err Rules

-- "17, 15", but for opening and taking
abbrev pub works : End → Result Unit Refusal
works e = unless_refused (judged e) (if e.running == 0 then Err Stopped else Ok tt)
