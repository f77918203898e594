-- The lines of a listing: "One space between items", and decimal numbers.
use Rattle.std.specs.Prelude.{ℕ, List, [], ◌∷◌, ◌++◌, codes, decimal}
use Rattle.std.specs.List.{flat_map}
use Rattle.pdu.specs.Answers.{refusal_no}
use Rattle.pdu.specs.Decoding.{decode_of, elements_of}
use Rattle.pdu.specs.declared.decoding.Pdu.{Pdu}

-- the longest message: "k is 4,096"
abbrev pub k : ℕ
k = 4096

-- a number, behind its space
abbrev pub item : ℕ → List ℕ
item n = codes " " ++ decimal n

-- a word and numbers
abbrev pub line : List ℕ → List ℕ → List ℕ
line word numbers = word ++ flat_map item numbers ++ codes "\n"

-- "`SD` number length; `POLL` N(PS) N(S); `STAT` N(PS) N(MR) N(R) count, elements; `USTAT` N(MR) N(R), elements; `BAD` and the answer (1, 2 or 3)"
abbrev pub pdu_line : Pdu → List ℕ → List ℕ
pdu_line (Pdu.Sd p) bytes = line (codes "SD") (p.s.0 ∷ p.length ∷ [])
pdu_line (Pdu.Poll p) bytes = line (codes "POLL") (p.ps.0 ∷ p.s.0 ∷ [])
pdu_line (Pdu.Stat p) bytes = line (codes "STAT") (p.ps.0 ∷ p.mr.0 ∷ p.r.0 ∷ p.count ∷ elements_of bytes)
pdu_line (Pdu.Ustat p) bytes = line (codes "USTAT") (p.mr.0 ∷ p.r.0 ∷ p.first.0 ∷ p.second.0 ∷ [])
pdu_line (Pdu.Refused e) bytes = line (codes "BAD") (refusal_no e ∷ [])

-- the line of a record with these bytes
abbrev pub line_of : List ℕ → List ℕ
line_of bytes = pdu_line (decode_of k bytes) bytes
