-- From bytes to fields and back: what the encoder of its kind writes of a decoded PDU, and which bits are reserved or pad.
use Rattle.std.specs.Prelude.{◌≡◌, ℕ, ◌+◌, ◌-◌, ◌*◌, ◌/◌, ◌%◌, ◌<◌, ◌≤◌, List, [], ◌∷◌, length, take, slice_index, Option, Some, None, Result, Ok, Err}
use Rattle.pdu.specs.Layout.{sd_bytes, poll_bytes, stat_bytes, ustat_bytes}
use Rattle.pdu.specs.Decoding.{elements_of}
use Rattle.pdu.specs.Encoding.{refused_sd, refused_numbers}
use Rattle.pdu.specs.declared.refusal.Refusal.{Refusal}
use Rattle.pdu.specs.declared.sd.Sd.{Sd}
use Rattle.pdu.specs.declared.decoding.Pdu.{Pdu}

-- an encoder's bytes, given room, unless something refuses it
abbrev pub bytes_unless : Option Refusal → List ℕ → Result (List ℕ) Refusal
bytes_unless None bs = Ok bs
bytes_unless (Some e) bs = Err e

-- what is written of a PDU that was decoded from these bytes: information and list elements are taken from them
abbrev pub again : ℕ → Pdu → List ℕ → Result (List ℕ) Refusal
again k (Pdu.Sd p) bs = bytes_unless (refused_sd k p.s.0 (take p.length bs)) (sd_bytes p.s.0 (take p.length bs))
again k (Pdu.Poll p) bs = bytes_unless (refused_numbers (p.ps.0 ∷ p.s.0 ∷ [])) (poll_bytes p.ps.0 p.s.0)
again k (Pdu.Stat p) bs = bytes_unless (refused_numbers (p.ps.0 ∷ p.mr.0 ∷ p.r.0 ∷ elements_of bs)) (stat_bytes p.ps.0 p.mr.0 p.r.0 (elements_of bs))
again k (Pdu.Ustat p) bs = bytes_unless (refused_numbers (p.first.0 ∷ p.second.0 ∷ p.mr.0 ∷ p.r.0 ∷ [])) (ustat_bytes p.first.0 p.second.0 p.mr.0 p.r.0)
again k (Pdu.Refused e) bs = Err e

-- of an SD: the bytes between information and last word, and the two bits below PL
pub record IsCleanSd (p : Sd) (bs : List ℕ) : Type 0 where
  pub pads : (i : ℕ) → p.length ≤ i → i + 4 < length bs → slice_index bs i ≡ 0
  pub last : slice_index bs (length bs - 4) / 16 % 4 ≡ 0

-- of the others: the first byte of each word but the last, and the four bits before the type
pub record IsCleanWords (bs : List ℕ) : Type 0 where
  pub pads : (i : ℕ) → 4 * i + 4 < length bs → slice_index bs (4 * i) ≡ 0
  pub last : slice_index bs (length bs - 4) / 16 ≡ 0

-- the reserved and the pad bits of a PDU that was decoded from these bytes are zero
abbrev pub IsClean : Pdu → List ℕ → Type 0
IsClean (Pdu.Sd p) bs = IsCleanSd p bs
IsClean (Pdu.Poll p) bs = IsCleanWords bs
IsClean (Pdu.Stat p) bs = IsCleanWords bs
IsClean (Pdu.Ustat p) bs = IsCleanWords bs
IsClean (Pdu.Refused e) bs = ⊥
