use Rattle.std.proofs.Common.{◌≡◌, ◌*◌, ◌++◌, take, drop}
use Rattle.std.specs.List.{flat_map}
use Rattle.pdu.specs.Layout.{word}
use Rattle.pdu.proofs.stat.put_list.Given as goal

abbrev pub invariant-loop-i : goal.invariant-loop-i
invariant-loop-i l = l.out ≡ flat_map (word 0) (take l.i l.elements) ++ drop (4 * l.i) l.initial.out
