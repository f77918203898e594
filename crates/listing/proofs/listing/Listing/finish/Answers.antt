use Rattle.std.proofs.Common.{◌≡◌, ◌++◌, string_bytes, refl, sym, ◌∙◌}
use Rattle.std.proofs.lemmas.Result.{on_ok_weaker}
use Rattle.listing.proofs.Ended.{only_version, last_lines_added, cut_line, cut, not_cut}
use Rattle.listing.proofs.listing.Listing.finish.Goals as goal
use Rattle.listing.proofs.listing.Listing.finish.Goals.{then-is_cut+in_ok-push_words, else-is_cut}

pub returns-then-ne : goal.returns-then-ne
returns-then-ne c =
    on_ok_weaker c.push_words.result (only_version c.args.self.now (string_bytes c.args.text.now) (string_bytes c.push_words.new.text) (sym c.ne.ensures ∙ c.if-ne.true)) c.push_words.ensures

pub returns : goal.returns
returns c =
    let listing = c.args.self.now in
    let old = string_bytes c.args.text.now in
    let mid : string_bytes c.if-is_cut.text ≡ old ++ cut_line listing old =
    elim c.if-is_cut.branch [
      | then-is_cut+in_ok-push_words w ↦ rw w.text-is (cut listing old _ (sym c.is_cut.ensures ∙ w.if-is_cut.true) w.in_ok-push_words.ensures)
      | else-is_cut w ↦ rw w.text-is (not_cut listing old _ (sym c.is_cut.ensures ∙ w.if-is_cut.false) refl)
    ] in
    on_ok_weaker c.push_words-2.result (last_lines_added listing old (string_bytes c.if-is_cut.text) (string_bytes c.push_words-2.new.text) (sym c.ne.ensures ∙ c.if-ne.false) mid) c.push_words-2.ensures
