use Rattle.std.proofs.Common.{◌≡◌, ◌++◌, string_bytes, take}
use Rattle.std.specs.List.{flat_map}
use Rattle.pdu.specs.Decoding.{elements_of}
use Rattle.listing.specs.Line.{item}
use Rattle.listing.proofs.line.push_elements.Given as goal

abbrev pub invariant-loop-i : goal.invariant-loop-i
invariant-loop-i l = string_bytes l.text ≡ string_bytes l.initial.text ++ flat_map item (take l.i (elements_of l.bytes))
