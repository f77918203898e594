-- The example holds by the definitions.
use Rattle.std.proofs.Common.{[], ◌∷◌, drop, refl, arith}
use Rattle.std.specs.Fmt.{digits}
use Rattle.std.proofs.lemmas.List.Elements.{All-nil, All-cons}
use Rattle.pdu.specs.Decoding.{decode_of}
use Rattle.listing.specs.Records.{IsRecord, Splits}
use Rattle.listing.specs.Cases.{p1, p4, short, example, ListingCases}
use Rattle.listing.proofs.Readings.{one_reading}

pub cases : ListingCases
unfolding decode_of digits
cases =
    let each = All-cons IsRecord p1 (p4 ∷ short ∷ []) (omega arith) (All-cons IsRecord p4 (short ∷ []) (omega arith) (All-cons IsRecord short [] (omega arith) (All-nil IsRecord))) in
    let split : Splits (drop 1 example) (p1 ∷ p4 ∷ short ∷ []) [] = record { whole = refl; each = each; partial = omega arith } in
    record {
      sd = refl;
      poll = refl;
      bad = refl;
      file = record {
        records = p1 ∷ p4 ∷ short ∷ [];
        rest = [];
        split = split;
        only = λ others other s. one_reading _ others _ other [] s split;
        lines = refl;
      };
    }
