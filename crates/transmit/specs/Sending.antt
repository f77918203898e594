-- "Send one SD: of the messages waiting to be resent, the lowest from VT(A); else the next unsent one if VT(S) is nearer to VT(A) than VT(MS) is, and
-- VT(S) goes up. The message is stamped with VT(PS), its waiting mark is cleared, VT(PD) goes up." "Send: 17, 15, 11, 12, 13, 8."
use Rattle.std.specs.Prelude.{ℕ, Bool, false, not, ◌+◌, ◌*◌, ◌==◌, nat_lt, if◌then◌else◌, List, [], is_ok, Option, Some, None, Result, Ok, Err, slice_get, slice_range, find}
use Rattle.std.specs.List.{range_with_len}
use Rattle.std.specs.Option.{option_map_or}
use Rattle.numbers.specs.Counting.{onward}
use Rattle.numbers.specs.Numbers.{seq_nos}
use Rattle.numbers.specs.Counted.{next_in, onward_in, ahead_in}
use Rattle.numbers.specs.declared.poll.PollNo.{PollNo}
use Rattle.pdu.specs.Layout.{sd_bytes}
use Rattle.pdu.specs.Encoding.{encoded, written}
use Rattle.pdu.specs.declared.refusal.Refusal.{Refusal}
use Rattle.pdu.specs.declared.refusal.Refusal.TheVariants.{NothingToSend, NoCredit, PollFirst}
use Rattle.end.specs.Rules.{works, unless_refused, sent}
use Rattle.end.specs.declared.params.Params.{Params}
use Rattle.end.specs.declared.transmitter.Kept.{Kept}
use Rattle.end.specs.declared.transmitter.Transmitter.{Transmitter}
use Rattle.end.specs.declared.whole.End.{End}
use Rattle.transmit.specs.Store.{change_at}

-- message i from VT(A) waits to be resent
abbrev pub waits : Params → Transmitter → ℕ → Bool
waits p v i = option_map_or (λ e. not (e.waiting == 0)) (slice_get v.entries.now (onward p.keep v.first i)) false

-- "of the messages waiting to be resent, the lowest from VT(A)"
abbrev pub lowest_waiting : Params → Transmitter → Option ℕ
lowest_waiting p v = find (waits p v) (range_with_len 0 (sent v))

-- how many messages the peer grants from VT(A) on: VT(MS) is ahead of VT(A) by this
abbrev pub credit : Transmitter → ℕ
credit v = ahead_in seq_nos v.ms v.a

-- the message to send, counted from VT(A), or 11 or 12
abbrev pub next_of : Option ℕ → Transmitter → Result ℕ Refusal
next_of (Some i) v = Ok i
next_of None v =
    if sent v == v.kept then Err NothingToSend
    else if nat_lt (sent v) (credit v) then Ok (sent v)
    else Err NoCredit

abbrev pub next_message : Params → Transmitter → Result ℕ Refusal
next_message p v = next_of (lowest_waiting p v) v

-- its bytes in the store
abbrev pub message_of : Params → Transmitter → ℕ → List ℕ
message_of p v i =
    let slot = onward p.keep v.first i in
    option_map_or (λ e. slice_range v.bytes.now (slot * p.longest) (slot * p.longest + e.length)) (slice_get v.entries.now slot) []

-- the SD
abbrev pub sd_of : Params → Transmitter → ℕ → List ℕ
sd_of p v i = sd_bytes (onward_in seq_nos v.a i).0 (message_of p v i)

-- "stamped with VT(PS), its waiting mark is cleared"
abbrev pub stamped : PollNo → Kept → Kept
stamped ps e = record e { stamp = ps; waiting = 0 }

abbrev pub send_once : Params → ℕ → Transmitter → Transmitter
send_once p i v = record v {
  s = if i == sent v then next_in seq_nos v.s else v.s;
  pd = v.pd + 1;
  entries = record v.entries { now = change_at (stamped v.ps) (onward p.keep v.first i) v.entries.now };
}

-- ---- the whole call, where the message to send is known or none is to be sent; 13 stands before 8

abbrev pub send_this : Result ℕ Refusal → End → List ℕ → Result ℕ Refusal
send_this (Ok i) e out = if e.vt.pd == e.params.maxpd then Err PollFirst else encoded None (sd_of e.params e.vt i) out
send_this (Err r) e out = Err r

abbrev pub send_answer : End → List ℕ → Result ℕ Refusal
send_answer e out = unless_refused (works e) (send_this (next_message e.params e.vt) e out)

abbrev pub sent_this : Result ℕ Refusal → End → End
sent_this (Ok i) e = record e { vt = send_once e.params i e.vt }
sent_this (Err r) e = e

abbrev pub sent_end : End → List ℕ → End
sent_end e out = if is_ok (send_answer e out) then sent_this (next_message e.params e.vt) e else e

abbrev pub output_of : Result ℕ Refusal → End → Result ℕ Refusal → List ℕ → List ℕ
output_of (Ok i) e answer out = written answer (sd_of e.params e.vt i) out
output_of (Err r) e answer out = out

abbrev pub send_output : End → List ℕ → List ℕ
send_output e out = output_of (next_message e.params e.vt) e (send_answer e out) out
