use Rattle.std.proofs.Common.{string_bytes}
use Rattle.listing.proofs.Running.{HasRun}
use Rattle.listing.proofs.run.list_by.Given as goal

abbrev pub invariant-loop : goal.invariant-loop
invariant-loop g l =
    HasRun (g.R.Read.remaining l.initial.input) (g.R.Read.remaining l.input) (g.W.Write.contents l.initial.output) (g.W.Write.contents l.output) l.listing (string_bytes l.text)
