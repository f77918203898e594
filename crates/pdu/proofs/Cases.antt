-- P1 to P6 of the rules hold by the definitions.
use Rattle.std.proofs.Common.{refl}
use Rattle.pdu.specs.Layout.{sd_bytes, poll_bytes, stat_bytes, ustat_bytes}
use Rattle.pdu.specs.Decoding.{decode_of}
use Rattle.pdu.specs.Cases.{PduCases}

pub cases : PduCases
unfolding decode_of sd_bytes poll_bytes stat_bytes ustat_bytes
cases = record {
  p1 = refl;
  p1_back = refl;
  p2 = refl;
  p2_back = refl;
  p3 = refl;
  p3_back = refl;
  p4 = refl;
  p4_back = refl;
  p5 = refl;
  p5_back = refl;
  p6 = refl;
  p6_back = refl;
}
