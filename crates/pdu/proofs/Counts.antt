-- A decoded STAT's count is that of its list elements.
use Rattle.std.proofs.Common.{◌≡◌, ℕ, ◌-◌, ◌%◌, Bool, true, false, cond, List, length, eqb, leb, sym, subst}
use Rattle.std.specs.Prelude.{Result, Ok, Err, slice_index, nat_lt, not, ◌||◌}
use Rattle.pdu.specs.Decoding.{decode_of, elements_of, pdu_of_sd, pdu_of_type, read_sd, read_poll, read_stat, read_ustat}
use Rattle.pdu.specs.declared.refusal.Refusal.{Refusal}
use Rattle.pdu.specs.declared.refusal.Refusal.TheVariants.{Length, TypeZero, OtherType, Rules}
use Rattle.pdu.specs.declared.sd.Sd.{Sd}
use Rattle.pdu.specs.declared.decoding.Pdu.{Pdu}
use Rattle.pdu.specs.declared.stat.Stat.{Stat}
use Rattle.pdu.proofs.Elements.{length-elements_of}

abbrev CountFits : List ℕ → Pdu → Type 0
CountFits bs (Pdu.Stat p) = p.count ≡ length (elements_of bs)
CountFits bs p = Unit {0}

module _ (bs : List ℕ) where
  refusal_fits : (b : Bool) (e : Refusal) (p : Pdu) → CountFits bs p → CountFits bs (cond b (Pdu.Refused e) p)
  refusal_fits true e p h = tt
  refusal_fits false e p h = h

  sd_fits : (b : Bool) (r : Result Sd Refusal) (p : Pdu) → CountFits bs p → CountFits bs (cond b (pdu_of_sd r) p)
  sd_fits true (Ok x) p h = tt
  sd_fits true (Err e) p h = tt
  sd_fits false r p h = h

  -- a kind, where its length is one that it has
  kind_fits : (b sized : Bool) (q p : Pdu) (e : Refusal) → CountFits bs q → CountFits bs p → CountFits bs (cond b (cond sized q (Pdu.Refused e)) p)
  kind_fits true true q p e g h = g
  kind_fits true false q p e g h = tt
  kind_fits false sized q p e g h = h

  type_fits : (k type : ℕ) → CountFits bs (pdu_of_type k type bs)
  type_fits k type =
      refusal_fits (eqb type 0) TypeZero _ (sd_fits (eqb type 8) (read_sd k bs) _ (kind_fits (eqb type 10) (eqb (length bs) 8) (Pdu.Poll (read_poll bs)) _ Length tt (kind_fits (eqb type 11) (leb 12 (length bs)) (Pdu.Stat (read_stat bs)) _ Length (sym (length-elements_of bs)) (kind_fits (eqb type 12) (eqb (length bs) 16) (Pdu.Ustat (read_ustat bs)) (Pdu.Refused OtherType) Length tt tt))))

count_fits : (k : ℕ) (bs : List ℕ) → CountFits bs (decode_of k bs)
unfolding decode_of
count_fits k bs =
    let type : ℕ = slice_index bs (length bs - 4) % 16 in
    let no_pdu : Bool = nat_lt (length bs) 4 || not (eqb (length bs % 4) 0) in
    refusal_fits bs (nat_lt 4096 k) Rules (cond no_pdu (Pdu.Refused Length) (pdu_of_type k type bs)) (refusal_fits bs no_pdu Length (pdu_of_type k type bs) (type_fits bs k type))

-- of a STAT that was decoded from these bytes
pub stat_count : (k : ℕ) (bs : List ℕ) (p : Stat) → Pdu.Stat p ≡ decode_of k bs → p.count ≡ length (elements_of bs)
stat_count k bs p e = subst (CountFits bs) (sym e) (count_fits k bs)
