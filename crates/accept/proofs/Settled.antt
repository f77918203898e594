-- Two results that the contract of an entry allows are equal: answer and count, end with its lent areas, and output.
use Rattle.std.proofs.Common.{◌≡◌, ℕ, List, sym, ◌∙◌}
use Rattle.std.specs.Prelude.{Result}
use Rattle.pdu.specs.declared.refusal.Refusal.{Refusal}
use Rattle.end.specs.declared.whole.End.{End}
use Rattle.accept.specs.Take.{take_answer, taken, take_output}

pub take_settled : (e : End) (out : List ℕ) (r s : Result ℕ Refusal) (new new' : End) (o o' : List ℕ) → r ≡ take_answer e out → new ≡ taken e out → o ≡ take_output e out → s ≡ take_answer e out → new' ≡ taken e out → o' ≡ take_output e out → (r ≡ s) × (new ≡ new') × (o ≡ o')
take_settled e out r s new new' o o' a b c d f g = (a ∙ sym d, b ∙ sym f, c ∙ sym g)
