-- PDU layouts (docs/RULES.md): "All words are 4 bytes, most significant byte first. The last word starts with one byte whose low four bits are the
-- type: SD 1000, POLL 1010, STAT 1011, USTAT 1100."
use Rattle.std.specs.Prelude.{ℕ, ◌+◌, ◌-◌, ◌*◌, ◌/◌, ◌%◌, ◌^◌, List, [], ◌∷◌, ◌++◌, length, take, drop, slice_index, replicate}
use Rattle.std.specs.List.{flat_map}

-- the number in the last three bytes of the word that begins at byte i
abbrev pub number_at : List ℕ → ℕ → ℕ
number_at bs i = (slice_index bs (i + 1) * 256 + slice_index bs (i + 2)) * 256 + slice_index bs (i + 3)

-- the word with this first byte and a number in the other three
abbrev pub word : ℕ → ℕ → List ℕ
word first n = first ∷ n / 2 ^ 16 % 256 ∷ n / 2 ^ 8 % 256 ∷ n % 256 ∷ []

-- xs with ys in place of what lay from byte i on
abbrev pub write_at : ℕ → List ℕ → List ℕ → List ℕ
write_at i ys xs = take i xs ++ ys ++ drop (i + length ys) xs

-- "SD: information, 0 to 3 pad bytes, last word: PL in the top two bits, two reserved bits, type, then N(S) in three bytes."
-- "PL is the least count that fills the word when we write."
abbrev pub pad : ℕ → ℕ
pad n = (4 - n % 4) % 4

unfoldable pub sd_bytes : ℕ → List ℕ → List ℕ
sd_bytes s information = information ++ replicate (pad (length information)) 0 ++ word (pad (length information) * 64 + 8) s

-- "POLL, 8 bytes: reserved byte, N(PS); then reserved four bits, type, N(S)."
unfoldable pub poll_bytes : ℕ → ℕ → List ℕ
poll_bytes ps s = word 0 ps ++ word 10 s

-- "STAT: list elements, each a pad byte and a number; reserved byte and N(PS); reserved byte and N(MR); reserved four bits, type, N(R)."
unfoldable pub stat_bytes : ℕ → ℕ → ℕ → List ℕ → List ℕ
stat_bytes ps mr r elements = flat_map (word 0) elements ++ word 0 ps ++ word 0 mr ++ word 11 r

-- "USTAT, 16 bytes: two elements; reserved byte and N(MR); reserved four bits, type, N(R)."
unfoldable pub ustat_bytes : ℕ → ℕ → ℕ → ℕ → List ℕ
ustat_bytes first second mr r = word 0 first ++ word 0 second ++ word 0 mr ++ word 12 r
