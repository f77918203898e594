-- The first six of the cases of docs/RULES.md: bytes, and what they say. P7 to P10 are of other crates.
use Rattle.std.specs.Prelude.{◌≡◌, ℕ, [], ◌∷◌}
use Rattle.numbers.specs.Numbers.{seq_no, poll_no}
use Rattle.pdu.specs.Layout.{sd_bytes, poll_bytes, stat_bytes, ustat_bytes}
use Rattle.pdu.specs.Decoding.{decode_of}
use Rattle.pdu.specs.declared.decoding.Pdu.TheVariants as Pdu

-- the longest message in the table's programs
abbrev pub k : ℕ
k = 256

pub record PduCases : Type 0 where
  -- "P1 41 42 00 00 88 00 00 05: SD 5, AB"
  pub p1 : decode_of k (0x41 ∷ 0x42 ∷ 0 ∷ 0 ∷ 0x88 ∷ 0 ∷ 0 ∷ 0x05 ∷ []) ≡ Pdu.Sd (record { s = seq_no 5; length = 2 })
  pub p1_back : sd_bytes 5 (0x41 ∷ 0x42 ∷ []) ≡ 0x41 ∷ 0x42 ∷ 0 ∷ 0 ∷ 0x88 ∷ 0 ∷ 0 ∷ 0x05 ∷ []
  -- "P2 08 FF FF FF: SD 16,777,215, empty"
  pub p2 : decode_of k (0x08 ∷ 0xff ∷ 0xff ∷ 0xff ∷ []) ≡ Pdu.Sd (record { s = seq_no 16777215; length = 0 })
  pub p2_back : sd_bytes 16777215 [] ≡ 0x08 ∷ 0xff ∷ 0xff ∷ 0xff ∷ []
  -- "P3 41 42 43 00 48 00 00 00: SD 0, three bytes"
  pub p3 : decode_of k (0x41 ∷ 0x42 ∷ 0x43 ∷ 0 ∷ 0x48 ∷ 0 ∷ 0 ∷ 0 ∷ []) ≡ Pdu.Sd (record { s = seq_no 0; length = 3 })
  pub p3_back : sd_bytes 0 (0x41 ∷ 0x42 ∷ 0x43 ∷ []) ≡ 0x41 ∷ 0x42 ∷ 0x43 ∷ 0 ∷ 0x48 ∷ 0 ∷ 0 ∷ 0 ∷ []
  -- "P4 00 00 00 01 0A 00 00 02: POLL 1, N(S) 2"
  pub p4 : decode_of k (0 ∷ 0 ∷ 0 ∷ 0x01 ∷ 0x0a ∷ 0 ∷ 0 ∷ 0x02 ∷ []) ≡ Pdu.Poll (record { ps = poll_no 1; s = seq_no 2 })
  pub p4_back : poll_bytes 1 2 ≡ 0 ∷ 0 ∷ 0 ∷ 0x01 ∷ 0x0a ∷ 0 ∷ 0 ∷ 0x02 ∷ []
  -- "P5 00 00 00 01 00 00 00 0A 0B 00 00 02: STAT, N(PS) 1, N(MR) 10, N(R) 2, no list"
  pub p5 : decode_of k (0 ∷ 0 ∷ 0 ∷ 0x01 ∷ 0 ∷ 0 ∷ 0 ∷ 0x0a ∷ 0x0b ∷ 0 ∷ 0 ∷ 0x02 ∷ []) ≡ Pdu.Stat (record { ps = poll_no 1; mr = seq_no 10; r = seq_no 2; count = 0 })
  pub p5_back : stat_bytes 1 10 2 [] ≡ 0 ∷ 0 ∷ 0 ∷ 0x01 ∷ 0 ∷ 0 ∷ 0 ∷ 0x0a ∷ 0x0b ∷ 0 ∷ 0 ∷ 0x02 ∷ []
  -- "P6 00 00 00 03 00 00 00 05 00 00 00 10 0C 00 00 03: USTAT 3, 5; N(MR) 16; N(R) 3"
  pub p6 : decode_of k (0 ∷ 0 ∷ 0 ∷ 0x03 ∷ 0 ∷ 0 ∷ 0 ∷ 0x05 ∷ 0 ∷ 0 ∷ 0 ∷ 0x10 ∷ 0x0c ∷ 0 ∷ 0 ∷ 0x03 ∷ []) ≡ Pdu.Ustat (record { first = seq_no 3; second = seq_no 5; mr = seq_no 16; r = seq_no 3 })
  pub p6_back : ustat_bytes 3 5 16 3 ≡ 0 ∷ 0 ∷ 0 ∷ 0x03 ∷ 0 ∷ 0 ∷ 0 ∷ 0x05 ∷ 0 ∷ 0 ∷ 0 ∷ 0x10 ∷ 0x0c ∷ 0 ∷ 0 ∷ 0x03 ∷ []
