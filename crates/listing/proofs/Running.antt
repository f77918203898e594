-- A run over a reader and a writer: what has been read, listed and written.
use Rattle.std.proofs.Common.{◌≡◌, ℕ, List, [], ◌++◌, Option, IfSome, sym, subst, append-nil}
use Rattle.std.specs.Io.KnownBytes.{Keeps, Consumes, Appends, IsAtEnd}
use Rattle.std.proofs.KnownBytes.{Consumes-trans, Consumes-kept, Consumes-whole, Appends-trans}
use Rattle.listing.specs.Listing.{HasListed, IsListing}
use Rattle.listing.specs.Run.{WritesListing}
use Rattle.listing.specs.declared.listing.Listing.{Listing}

-- the reader began with first and has left what is left, the writer began with start and holds what it holds now
pub record HasRun (first left start holds : Option (List ℕ)) (listing : Listing) (text : List ℕ) : Type 0 where
  pub fed : List ℕ
  pub printed : List ℕ
  pub read : Consumes first left fed
  pub written : Appends start holds printed
  pub listed : HasListed fed listing printed
  pub sent : text ≡ []

module _ {first left start holds : Option (List ℕ)} {listing : Listing} {text : List ℕ} (h : HasRun first left start holds listing text) where
  -- nothing is in the text that is not written
  unsent : HasListed h.fed listing (h.printed ++ text)
  unsent = subst (λ t. HasListed h.fed listing (h.printed ++ t)) (sym h.sent) (subst (HasListed h.fed listing) (sym (append-nil h.printed)) h.listed)

  -- a piece more
  pub run_goes_on : (next now : Option (List ℕ)) (new : Listing) (piece added cleared : List ℕ) → Consumes left next piece
      → ((bytes printed : List ℕ) → HasListed bytes listing (printed ++ text) → HasListed (bytes ++ piece) new (printed ++ added)) → Appends holds now added → cleared ≡ [] → HasRun first next start now new cleared
  run_goes_on next now new piece added cleared r f w e = record {
    fed = h.fed ++ piece;
    printed = h.printed ++ added;
    read = Consumes-trans first left next h.fed piece h.read r;
    written = Appends-trans start holds now h.printed added h.written w;
    listed = f h.fed h.printed unsent;
    sent = e;
  }

  -- a read that was interrupted
  pub run_waits : (next : Option (List ℕ)) → Keeps left next → HasRun first next start holds listing text
  run_waits next k = record { fed = h.fed; printed = h.printed; read = Consumes-kept first left next h.fed h.read k; written = h.written; listed = h.listed; sent = h.sent }

  -- the file has ended
  pub run_ends : (next now : Option (List ℕ)) (added : List ℕ) → Consumes left next [] → IsAtEnd next
      → ((file printed : List ℕ) → HasListed file listing (printed ++ text) → IsListing file (printed ++ added)) → Appends holds now added → IfSome first (λ file. WritesListing file start now)
  run_ends next now added r end f w =
      let read : Consumes first next h.fed = subst (Consumes first next) (append-nil h.fed) (Consumes-trans first left next h.fed [] h.read r) in
      Consumes-whole first next h.fed (λ file. WritesListing file start now) read end (h.printed ++ added, f h.fed h.printed unsent, Appends-trans start holds now h.printed added h.written w)
