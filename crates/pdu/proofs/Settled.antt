-- Two results that a contract allows are equal: of the decoder, of its accessor, and of every encoder.
use Rattle.std.proofs.Common.{◌≡◌, ℕ, List, sym, ◌∙◌}
use Rattle.std.specs.Prelude.{Option, Result, slice_get}
use Rattle.std.specs.Option.{option_map}
use Rattle.numbers.specs.Numbers.{seq_no}
use Rattle.numbers.specs.declared.seq.SeqNo.{SeqNo}
use Rattle.pdu.specs.Decoding.{decode_of, elements_of}
use Rattle.pdu.specs.Encoding.{encoded, written}
use Rattle.pdu.specs.declared.refusal.Refusal.{Refusal}
use Rattle.pdu.specs.declared.decoding.Pdu.{Pdu}

pub decode_settled : (k : ℕ) (bs : List ℕ) (p q : Pdu) → p ≡ decode_of k bs → q ≡ decode_of k bs → p ≡ q
decode_settled k bs p q a b = cc

-- an encoder that refuses e or writes bs: its answer, and what the output holds then
pub encode_settled : (e : Option Refusal) (bs out : List ℕ) (r s : Result ℕ Refusal) (new new' : List ℕ) → r ≡ encoded e bs out → new ≡ written r bs out → s ≡ encoded e bs out → new' ≡ written s bs out → (r ≡ s) × (new ≡ new')
encode_settled e bs out r s new new' a b c d = (cc, cc)

pub element_settled : (bs : List ℕ) (i : ℕ) (r s : Option SeqNo) → r ≡ option_map seq_no (slice_get (elements_of bs) i) → s ≡ option_map seq_no (slice_get (elements_of bs) i) → r ≡ s
element_settled bs i r s a b = a ∙ sym b
