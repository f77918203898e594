use Rattle.std.proofs.Common.{◌<◌, length, string_bytes, refl, arith}
use Rattle.std.proofs.lemmas.Result.{on_ok_weaker}
use Rattle.listing.proofs.Running.{run_goes_on, run_waits, run_ends}
use Rattle.listing.proofs.run.list_by.Goals as goal
use Rattle.listing.proofs.run.list_by.Goals.{in-Ok+in_ok-feed-in-Ok+in_ok-write_all-in-Ok, in-Err}

pub returns-in-Ok-eq0 : goal.returns-in-Ok-eq0
returns-in-Ok-eq0 g c =
    let read = rw (c.in-Ok-eq0.is, c.in-Ok-eq0.field-0-test) at c.read.ensures.bytes in
    let room : 0 < length c.read.new.buf = omega arith in
    on_ok_weaker c.write_all.result (λ wrote. run_ends c.loop.invariant _ _ (string_bytes c.finish.new.text) read.0 (read.1 refl room) c.in_ok-finish-in-Ok-eq0.ensures (rw c.as_bytes.ensures.value at wrote)) c.write_all.ensures.bytes

pub loop-preserved : goal.loop-preserved
loop-preserved g c =
    elim c.match-read.branch [
      | in-Ok+in_ok-feed-in-Ok+in_ok-write_all-in-Ok w ↦
          let wrote = rw w.as_bytes-in-Ok.ensures.value at w.in_ok-write_all-in-Ok.ensures.bytes in
          rw (w.output-is, w.listing-is, w.text-is) (run_goes_on c.loop.invariant _ _ _ _ (string_bytes w.feed.new.text) _ w.in-Ok.ensures.bytes.0 w.in_ok-feed-in-Ok.ensures wrote w.clear.ensures.bytes)
      | in-Err w ↦ rw (w.output-is, w.listing-is, w.text-is) (run_waits c.loop.invariant _ w.in-Err.ensures.bytes)
    ]
