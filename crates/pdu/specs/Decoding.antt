-- What the decoder gives (docs/RULES.md, "PDU layouts" and "Answers").
use Rattle.std.specs.Prelude.{ℕ, ◌||◌, not, ◌+◌, ◌-◌, ◌*◌, ◌/◌, ◌%◌, ◌==◌, nat_lt, nat_le, if◌then◌else◌, List, map, length, slice_index, Result, Ok, Err}
use Rattle.std.specs.List.{range_with_len}
use Rattle.numbers.specs.Numbers.{seq_no, poll_no}
use Rattle.pdu.specs.Layout.{number_at}
use Rattle.pdu.specs.declared.refusal.Refusal.{Refusal}
use Rattle.pdu.specs.declared.refusal.Refusal.TheVariants.{Length, TypeZero, OtherType, Rules}
use Rattle.pdu.specs.declared.sd.Sd.{Sd}
use Rattle.pdu.specs.declared.poll.Poll.{Poll}
use Rattle.pdu.specs.declared.stat.Stat.{Stat}
use Rattle.pdu.specs.declared.ustat.Ustat.{Ustat}
use Rattle.pdu.specs.declared.decoding.Pdu.{Pdu}

-- "PL beyond the bytes there, or information over k"; "when read, any PL up to the bytes before the last word stands"
abbrev pub read_sd : ℕ → List ℕ → Result Sd Refusal
read_sd k bs =
    let last = length bs - 4 in
    let pl = slice_index bs last / 64 in
    if nat_lt last pl || nat_lt k (last - pl) then Err Length else Ok (record { s = seq_no (number_at bs last); length = last - pl })

abbrev pub read_poll : List ℕ → Poll
read_poll bs = record { ps = poll_no (number_at bs 0); s = seq_no (number_at bs 4) }

abbrev pub read_stat : List ℕ → Stat
read_stat bs =
    let head = length bs - 12 in
    record { ps = poll_no (number_at bs head); mr = seq_no (number_at bs (head + 4)); r = seq_no (number_at bs (head + 8)); count = head / 4 }

-- the words of the list elements of a STAT with these bytes, in their order
abbrev pub elements_of : List ℕ → List ℕ
elements_of bs = map (λ i. number_at bs (4 * i)) (range_with_len 0 ((length bs - 12) / 4))

abbrev pub read_ustat : List ℕ → Ustat
read_ustat bs = record { first = seq_no (number_at bs 0); second = seq_no (number_at bs 4); mr = seq_no (number_at bs 8); r = seq_no (number_at bs 12) }

abbrev pub pdu_of_sd : Result Sd Refusal → Pdu
pdu_of_sd (Ok p) = Pdu.Sd p
pdu_of_sd (Err e) = Pdu.Refused e

-- the rest of 1: "wrong for its type"
abbrev pub pdu_of_type : ℕ → ℕ → List ℕ → Pdu
pdu_of_type k type bs =
    if type == 0 then Pdu.Refused TypeZero
    else if type == 8 then pdu_of_sd (read_sd k bs)
    else if type == 10 then (if length bs == 8 then Pdu.Poll (read_poll bs) else Pdu.Refused Length)
    else if type == 11 then (if nat_le 12 (length bs) then Pdu.Stat (read_stat bs) else Pdu.Refused Length)
    else if type == 12 then (if length bs == 16 then Pdu.Ustat (read_ustat bs) else Pdu.Refused Length)
    else Pdu.Refused OtherType

-- "Decoding alone: 17 for k, then as receive": "1 for under 4 or not a multiple of 4, 2, 3, the rest of 1"
unfoldable pub decode_of : ℕ → List ℕ → Pdu
decode_of k bs =
    if nat_lt 4096 k then Pdu.Refused Rules
    else if nat_lt (length bs) 4 || not (length bs % 4 == 0) then Pdu.Refused Length
    else pdu_of_type k (slice_index bs (length bs - 4) % 16) bs
