use Rattle.std.proofs.Common.{◌≡◌, ◌<◌, ◌∙◌, sym, arith}
use Rattle.std.specs.Prelude.{All}
use Rattle.listing.specs.Records.{rest_of}
use Rattle.listing.proofs.Reading.{rest_of-whole, rest_of-not_whole, one_byte_more}
use Rattle.listing.proofs.reader.RecordReader.push.Goals as goal
use Rattle.listing.proofs.reader.RecordReader.push.Goals.{then-is_whole, else-is_whole}

pub returns : goal.returns
returns c bytes records h =
    let old = c.args.self.now in
    let all : All (λ b. b < 256) old = rw (sym c.self.view_is) c.self.invariant in
    let kept : c.if-is_whole.self-inside.bytes.items ≡ rest_of old =
    elim c.if-is_whole.branch [
      | then-is_whole w ↦ rw (w.self-inside-is, w.clear.ensures.items) (sym (rest_of-whole old (sym c.is_whole.ensures ∙ w.if-is_whole.true)))
      | else-is_whole w ↦ rw w.self-inside-is (c.self.view_is ∙ sym (rest_of-not_whole old (sym c.is_whole.ensures ∙ w.if-is_whole.false)))
    ] in
    one_byte_more old c.if-is_whole.self-inside.bytes.items c.push.new.self.items c.args.byte kept c.in_ok-push.ensures.items (omega arith) all bytes records h
