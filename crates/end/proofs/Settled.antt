-- Two results that the contract of opening allows are equal: answer, and end with its lent areas.
use Rattle.std.proofs.Common.{◌≡◌, ℕ, sym, ◌∙◌}
use Rattle.std.specs.Prelude.{Result}
use Rattle.numbers.specs.declared.seq.SeqNo.{SeqNo}
use Rattle.pdu.specs.declared.refusal.Refusal.{Refusal}
use Rattle.end.specs.declared.whole.End.{End}
use Rattle.end.specs.Opening.{open_answer, opened}

pub open_settled : (e : End) (n : SeqNo) (g : ℕ) (r s : Result Unit Refusal) (new new' : End) → r ≡ open_answer e n g → new ≡ opened e n g → s ≡ open_answer e n g → new' ≡ opened e n g → (r ≡ s) × (new ≡ new')
open_settled e n g r s new new' a b c d = (a ∙ sym c, b ∙ sym d)
