-- The table of answers (docs/RULES.md, "Answers"), but for 0 (done) and 18 (a step): why a call is refused.
use Rattle.std.specs.Prelude.{ℕ}
use Rattle.pdu.specs.declared.refusal.Refusal.{Refusal}
use Rattle.pdu.specs.declared.refusal.Refusal.TheVariants.{Length, TypeZero, OtherType, ErrorQ, ErrorR, ErrorS, ErrorT, NoRoom, LongMessage, Full, NothingToSend, NoCredit, PollFirst, PollsOutstanding, Stopped, NothingInOrder, Rules, NumberTooLarge}

abbrev pub refusal_no : Refusal → ℕ
refusal_no Length = 1
refusal_no TypeZero = 2
refusal_no OtherType = 3
refusal_no ErrorQ = 4
refusal_no ErrorR = 5
refusal_no ErrorS = 6
refusal_no ErrorT = 7
refusal_no NoRoom = 8
refusal_no LongMessage = 9
refusal_no Full = 10
refusal_no NothingToSend = 11
refusal_no NoCredit = 12
refusal_no PollFirst = 13
refusal_no PollsOutstanding = 14
refusal_no Stopped = 15
refusal_no NothingInOrder = 16
refusal_no Rules = 17
refusal_no NumberTooLarge = 19
