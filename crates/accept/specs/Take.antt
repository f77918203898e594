-- "Take: message T is written out, its length is the count, its mark is cleared, T and with it VR(MR) go up." "Take: 17, 16, 8; taking goes on after a
-- stop."
use Rattle.std.specs.Prelude.{ℕ, ◌+◌, ◌*◌, ◌==◌, if◌then◌else◌, List, is_ok, None, Result, Err, slice_index, slice_range, slice_set}
use Rattle.numbers.specs.Counting.{onward}
use Rattle.numbers.specs.Numbers.{seq_nos}
use Rattle.numbers.specs.Counted.{next_in}
use Rattle.pdu.specs.Encoding.{encoded, written}
use Rattle.pdu.specs.declared.refusal.Refusal.{Refusal}
use Rattle.pdu.specs.declared.refusal.Refusal.TheVariants.{NothingInOrder}
use Rattle.end.specs.Rules.{judged, unless_refused, passed}
use Rattle.end.specs.declared.params.Params.{Params}
use Rattle.end.specs.declared.receiver.Receiver.{Receiver}
use Rattle.end.specs.declared.whole.End.{End}

-- the bytes of message T, which is in the slot `head`
abbrev pub first_message : Params → Receiver → List ℕ
first_message p v = slice_range v.bytes.now (v.head * p.longest) (v.head * p.longest + slice_index v.lengths.now v.head)

abbrev pub take_once : Params → Receiver → Receiver
take_once p v = record v {
  t = next_in seq_nos v.t;
  mr = next_in seq_nos v.mr;
  head = onward p.credit v.head 1;
  marks = record v.marks { now = slice_set v.marks.now v.head 0 };
}

abbrev pub take_answer : End → List ℕ → Result ℕ Refusal
take_answer e out = unless_refused (judged e) (
    if passed e.vr == 0 then Err NothingInOrder
    else encoded None (first_message e.params e.vr) out)

abbrev pub taken : End → List ℕ → End
taken e out = if is_ok (take_answer e out) then record e { vr = take_once e.params e.vr } else e

abbrev pub take_output : End → List ℕ → List ℕ
take_output e out = written (take_answer e out) (first_message e.params e.vr) out
