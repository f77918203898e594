use Rattle.std.proofs.Common.{ℕ, List, ◌++◌, string_bytes, refl, subst}
use Rattle.listing.specs.Listing.{HasListed}
use Rattle.listing.proofs.Listed.{fed_more, fed_all}
use Rattle.listing.proofs.listing.Listing.feed.Goals as goal

pub loop-byte-preserved : goal.loop-byte-preserved
loop-byte-preserved c bytes printed h =
    let Fed : List ℕ → Type 0 = λ fed. HasListed fed c.push.new.self (printed ++ string_bytes c.push.new.text) in
    subst Fed (fed_more bytes c.args.piece.now c.loop-byte.byte-index _ c.loop-byte-test.true refl) (c.in_ok-push.ensures _ printed (c.loop-byte.invariant bytes printed h))

pub returns : goal.returns
returns c bytes printed h =
    let Fed : List ℕ → Type 0 = λ fed. HasListed fed c.loop-byte.self (printed ++ string_bytes c.loop-byte.text) in
    subst Fed (fed_all bytes c.args.piece.now c.loop-byte.byte-index c.loop-byte-test.false) (c.loop-byte.invariant bytes printed h)
