use Rattle.std.proofs.Common.{◌≡◌, ◌++◌, map, take, drop}
use Rattle.end.specs.Opening.{unmarked}
use Rattle.end.proofs.opening.clear.Given as goal

abbrev pub invariant-loop-entry : goal.invariant-loop-entry
invariant-loop-entry l = l.entry-items ≡ map unmarked (take l.entry-index l.fn.entries) ++ drop l.entry-index l.fn.entries
