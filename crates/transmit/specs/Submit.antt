-- "Submit: keep the message at the end." "Submit: 17, 15, 9, 10."
use Rattle.std.specs.Prelude.{ℕ, ◌+◌, ◌*◌, ◌==◌, nat_lt, if◌then◌else◌, List, length, is_ok, Result, Ok, Err}
use Rattle.numbers.specs.Counting.{onward}
use Rattle.pdu.specs.Layout.{write_at}
use Rattle.pdu.specs.declared.refusal.Refusal.{Refusal}
use Rattle.pdu.specs.declared.refusal.Refusal.TheVariants.{LongMessage, Full}
use Rattle.end.specs.Rules.{works, unless_refused}
use Rattle.end.specs.declared.params.Params.{Params}
use Rattle.end.specs.declared.transmitter.Transmitter.{Transmitter}
use Rattle.end.specs.declared.whole.End.{End}
use Rattle.transmit.specs.Store.{change_at, with_length}

-- message number `kept` from VT(A) on is the new one: its length is in its entry, and its bytes are in its slot of the store
abbrev pub keep_message : Params → List ℕ → Transmitter → Transmitter
keep_message p message v =
    let slot = onward p.keep v.first v.kept in
    record v {
      kept = v.kept + 1;
      entries = record v.entries { now = change_at (with_length (length message)) slot v.entries.now };
      bytes = record v.bytes { now = write_at (slot * p.longest) message v.bytes.now };
    }

-- the refusals of a call that works
abbrev pub submit_refusal : End → List ℕ → Result Unit Refusal
submit_refusal e message =
    if nat_lt e.params.longest (length message) then Err LongMessage
    else if e.vt.kept == e.params.keep then Err Full
    else Ok tt

abbrev pub submit_answer : End → List ℕ → Result Unit Refusal
submit_answer e message = unless_refused (works e) (submit_refusal e message)

abbrev pub submitted : End → List ℕ → End
submitted e message = if is_ok (submit_answer e message) then record e { vt = keep_message e.params message e.vt } else e
