-- "Poll: VT(PS) goes up, POLL carries it and VT(S), VT(PD) becomes 0." "Poll: 17, 15, 14, 8."
use Rattle.std.specs.Prelude.{ℕ, ◌==◌, if◌then◌else◌, List, is_ok, None, Result, Err}
use Rattle.numbers.specs.Numbers.{poll_nos}
use Rattle.numbers.specs.Counted.{next_in}
use Rattle.pdu.specs.Layout.{poll_bytes}
use Rattle.pdu.specs.Encoding.{encoded, written}
use Rattle.pdu.specs.declared.refusal.Refusal.{Refusal}
use Rattle.pdu.specs.declared.refusal.Refusal.TheVariants.{PollsOutstanding}
use Rattle.end.specs.Rules.{works, unless_refused, outstanding}
use Rattle.end.specs.declared.transmitter.Transmitter.{Transmitter}
use Rattle.end.specs.declared.whole.End.{End}

abbrev pub poll_once : Transmitter → Transmitter
poll_once v = record v { ps = next_in poll_nos v.ps; pd = 0 }

-- the POLL
abbrev pub poll_pdu : End → List ℕ
poll_pdu e = poll_bytes (next_in poll_nos e.vt.ps).0 e.vt.s.0

abbrev pub poll_answer : End → List ℕ → Result ℕ Refusal
poll_answer e out = unless_refused (works e) (
    if outstanding e.vt == 8388607 then Err PollsOutstanding
    else encoded None (poll_pdu e) out)

abbrev pub polled : End → List ℕ → End
polled e out = if is_ok (poll_answer e out) then record e { vt = poll_once e.vt } else e

abbrev pub poll_output : End → List ℕ → List ℕ
poll_output e out = written (poll_answer e out) (poll_pdu e) out
