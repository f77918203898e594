-- Two results that the contract of an entry allows are equal: answer and count, end with its lent areas, and output.
use Rattle.std.proofs.Common.{◌≡◌, ℕ, List, sym, ◌∙◌}
use Rattle.std.specs.Prelude.{Result}
use Rattle.pdu.specs.declared.refusal.Refusal.{Refusal}
use Rattle.end.specs.declared.whole.End.{End}
use Rattle.transmit.specs.Submit.{submit_answer, submitted}
use Rattle.transmit.specs.Polling.{poll_answer, polled, poll_output}
use Rattle.transmit.specs.Sending.{send_answer, sent_end, send_output}

pub submit_settled : (e : End) (message : List ℕ) (r s : Result Unit Refusal) (new new' : End) → r ≡ submit_answer e message → new ≡ submitted e message → s ≡ submit_answer e message → new' ≡ submitted e message → (r ≡ s) × (new ≡ new')
submit_settled e message r s new new' a b c d = (a ∙ sym c, b ∙ sym d)

pub poll_settled : (e : End) (out : List ℕ) (r s : Result ℕ Refusal) (new new' : End) (o o' : List ℕ) → r ≡ poll_answer e out → new ≡ polled e out → o ≡ poll_output e out → s ≡ poll_answer e out → new' ≡ polled e out → o' ≡ poll_output e out → (r ≡ s) × (new ≡ new') × (o ≡ o')
poll_settled e out r s new new' o o' a b c d f g = (a ∙ sym d, b ∙ sym f, c ∙ sym g)

pub send_settled : (e : End) (out : List ℕ) (r s : Result ℕ Refusal) (new new' : End) (o o' : List ℕ) → r ≡ send_answer e out → new ≡ sent_end e out → o ≡ send_output e out → s ≡ send_answer e out → new' ≡ sent_end e out → o' ≡ send_output e out → (r ≡ s) × (new ≡ new') × (o ≡ o')
send_settled e out r s new new' o o' a b c d f g = (a ∙ sym d, b ∙ sym f, c ∙ sym g)
