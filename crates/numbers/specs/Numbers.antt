-- "SD numbers and poll numbers are each counted modulo 2^24 = 16,777,216 and are independent; one is never compared with the other."
-- So each is a kind of its own: what is counted in the one doesn't type in the other.
use Rattle.std.specs.Prelude.{Bool, ℕ, ◌^◌, ℤ}
use Rattle.numbers.specs.Counting.{age, older}
use Rattle.numbers.specs.Counted.{Kind}
use Rattle.numbers.specs.declared.seq.SeqNo.{SeqNo}
use Rattle.numbers.specs.declared.poll.PollNo.{PollNo}

abbrev pub modulus : ℕ
modulus = 2 ^ 24

-- ---- of SDs

abbrev pub seq_no : ℕ → SeqNo
seq_no n = record { 0 = n }

abbrev pub seq_nos : Kind SeqNo
seq_nos = record { modulus = modulus; word = λ p. p.0; from_word = seq_no }

-- ---- of polls

abbrev pub poll_no : ℕ → PollNo
poll_no n = record { 0 = n }

abbrev pub poll_nos : Kind PollNo
poll_nos = record { modulus = modulus; word = λ p. p.0; from_word = poll_no }

-- the age of a stamp against a poll, and whether it is above 0
abbrev pub age_poll : PollNo → PollNo → ℤ
age_poll stamp poll = age modulus stamp.0 poll.0

abbrev pub older_poll : PollNo → PollNo → Bool
older_poll stamp poll = older modulus stamp.0 poll.0
