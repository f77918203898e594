use Rattle.std.proofs.Common.{ℕ, List, ◌++◌, string_bytes, take}
use Rattle.listing.specs.Listing.{HasListed}
use Rattle.listing.proofs.listing.Listing.feed.Given as goal

abbrev pub invariant-loop-byte : goal.invariant-loop-byte
invariant-loop-byte l =
    (bytes printed : List ℕ) → HasListed bytes l.initial.self (printed ++ string_bytes l.initial.text) → HasListed (bytes ++ take l.byte-index l.piece) l.self (printed ++ string_bytes l.text)
