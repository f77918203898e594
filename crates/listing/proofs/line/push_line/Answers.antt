use Rattle.listing.specs.Line.{k}
use Rattle.pdu.proofs.Counts.{stat_count}
use Rattle.listing.proofs.line.push_line.Goals as goal

pub push_stat-requires : goal.push_stat-requires
push_stat-requires c = stat_count k c.args.bytes.now c.in-Stat.stat c.in-Stat.ensures
