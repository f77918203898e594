use Rattle.std.proofs.Common.{◌++◌, string_bytes, List, ℕ, ap, ◌∙◌, sym, refl, append_assoc}
use Rattle.listing.proofs.Listed.{one_line_more, no_line_more}
use Rattle.listing.proofs.listing.Listing.push_byte.Goals as goal

pub returns-in_ok-self-clause-lines : goal.returns-in_ok-self-clause-lines
returns-in_ok-self-clause-lines c bytes printed h =
    let counted = (rw c.in_ok-self.ensures.ok_part at c.checked_add.ensures).1 in
    let added = ap (λ (x : List ℕ). printed ++ x) c.in_ok-push_line.ensures ∙ sym (append_assoc printed (string_bytes c.args.text.now) _) in
    one_line_more bytes _ c.args.self.now _ (c.in_ok-push.ensures bytes) _ h c.in-Some.pdu.now _ (sym c.in-Some.ensures) counted added

pub returns-in_default-clause-lines : goal.returns-in_default-clause-lines
returns-in_default-clause-lines c bytes printed h = no_line_more bytes _ c.args.self.now _ (c.in_ok-push.ensures bytes) _ h (sym c.in_default.ensures) refl
