use Rattle.std.proofs.Common.{string_bytes, ◌∙◌, sym, arith}
use Rattle.pdu.specs.Decoding.{elements_of}
use Rattle.listing.proofs.Elements.{text_more, no_element}
use Rattle.listing.proofs.line.push_elements.Goals as goal
use Rattle.listing.proofs.line.push_elements.Goals.{in-Some+in_ok-push_items, in_default}

pub loop-i-preserved : goal.loop-i-preserved
loop-i-preserved c =
    elim c.match-element.branch [
      | in-Some+in_ok-push_items w ↦
          text_more _ (string_bytes c.loop-i.text) _ (elements_of c.args.bytes.now) c.loop-i.i w.in-Some.element.0 (omega arith) (sym w.in-Some.is ∙ c.element.ensures) c.loop-i.invariant (cc w.in_ok-push_items.ensures)
      | in_default w ↦ absurd (no_element (elements_of c.args.bytes.now) c.loop-i.i (omega arith) (sym w.in_default.is ∙ c.element.ensures))
    ]
