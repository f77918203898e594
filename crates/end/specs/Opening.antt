-- "Opened with n: VT(S) = VT(A) = VR(R) = VR(H) = VT(PS) = n; VT(PA) = n + 1; VT(PD) = 0; the next number to take, T, is n; VR(MR) = T + C, always;
-- VT(MS) = n + G. Nothing is kept or marked, the connection runs, message bytes stay."
use Rattle.std.specs.Prelude.{ℕ, Bool, ◌&&◌, nat_le, if◌then◌else◌, map, ◌++◌, take, drop, replicate, Result, Ok, Err}
use Rattle.numbers.specs.Numbers.{poll_no, seq_nos, poll_nos}
use Rattle.numbers.specs.Counted.{onward_in, next_in, is_in_range}
use Rattle.numbers.specs.declared.seq.SeqNo.{SeqNo}
use Rattle.pdu.specs.declared.refusal.Refusal.{Refusal}
use Rattle.pdu.specs.declared.refusal.Refusal.TheVariants.{Rules}
use Rattle.end.specs.Rules.{params_keep, vt_room, vr_room}
use Rattle.end.specs.declared.params.Params.{Params}
use Rattle.end.specs.declared.transmitter.Kept.{Kept}
use Rattle.end.specs.declared.transmitter.Transmitter.{Transmitter}
use Rattle.end.specs.declared.receiver.Receiver.{Receiver}
use Rattle.end.specs.declared.whole.End.{End}

-- an entry whose message doesn't wait
abbrev pub unmarked : Kept → Kept
unmarked e = record e { waiting = 0 }

abbrev pub opened_vt : Params → SeqNo → ℕ → Transmitter → Transmitter
opened_vt p n g v = record v {
  s = n;
  a = n;
  ms = onward_in seq_nos n g;
  ps = poll_no n.0;
  pa = next_in poll_nos (poll_no n.0);
  pd = 0;
  kept = 0;
  first = 0;
  entries = record v.entries { now = map unmarked (take p.keep v.entries.now) ++ drop p.keep v.entries.now };
}

abbrev pub opened_vr : Params → SeqNo → Receiver → Receiver
opened_vr p n v = record v {
  t = n;
  r = n;
  h = n;
  mr = onward_in seq_nos n p.credit;
  head = 0;
  marks = record v.marks { now = replicate p.credit 0 ++ drop p.credit v.marks.now };
}

-- "Opening: 17": parameters, n and G in range, areas long enough
abbrev pub can_open : End → SeqNo → ℕ → Bool
can_open e n g = params_keep e.params && vt_room e.params e.vt && vr_room e.params e.vr && is_in_range seq_nos n && nat_le g 1024

abbrev pub open_answer : End → SeqNo → ℕ → Result Unit Refusal
open_answer e n g = if can_open e n g then Ok tt else Err Rules

abbrev pub opened : End → SeqNo → ℕ → End
opened e n g = if can_open e n g then record e { running = 1; vt = opened_vt e.params n g e.vt; vr = opened_vr e.params n e.vr } else e
