-- How records lie in a version 1 file, behind its version byte: "records, each a two-byte length, high byte first, and that many PDU bytes".
use Rattle.std.specs.Prelude.{◌≡◌, ℕ, ◌+◌, ◌*◌, ◌/◌, ◌%◌, ◌^◌, ◌<◌, ◌==◌, if◌then◌else◌, List, [], ◌∷◌, ◌++◌, length, drop, slice_index, All, Option, Some, None}
use Rattle.std.specs.List.{flat_map}

abbrev pub framed : List ℕ → List ℕ
framed pdu = length pdu / 256 ∷ length pdu % 256 ∷ pdu

-- the length that stands in these two bytes; one that is not there counts as 0
abbrev pub record_len : List ℕ → ℕ
record_len bytes = slice_index bytes 0 * 256 + slice_index bytes 1

-- "a record or its length cut short": nothing at all, or less than a whole record
abbrev pub IsPartial : List ℕ → Type 0
IsPartial bytes = length bytes < 2 + record_len bytes

abbrev pub IsRecord : List ℕ → Type 0
IsRecord pdu = length pdu < 2 ^ 16

-- these bytes are these records, each behind its length, and then less than a whole one
pub record Splits (bytes : List ℕ) (records : List (List ℕ)) (rest : List ℕ) : Type 0 where
  pub whole : bytes ≡ flat_map framed records ++ rest
  pub each : All IsRecord records
  pub partial : IsPartial rest

-- ---- what a reader holds: a record behind its length, whole or not yet

-- the record, where the last byte completed it
abbrev pub record_of : List ℕ → Option (List ℕ)
record_of bytes = if length bytes == 2 + record_len bytes then Some (drop 2 bytes) else None

-- what has come of the next record
abbrev pub rest_of : List ℕ → List ℕ
rest_of bytes = if length bytes == 2 + record_len bytes then [] else bytes
