-- A good listing has no more bytes than a listing may have.
use Rattle.std.proofs.Common.{◌≡◌, ℕ, ◌<◌, ◌^◌, List, length, Result, Ok, Err, arith, refl, if◌then◌else◌}
use Rattle.std.specs.Prelude.{Bool, true, false, nat_lt}
use Rattle.std.proofs.lemmas.Bool.Decides.{nat_tests}
use Rattle.cheri_model.specs.runs.Image.{ImageParts}
use Rattle.listings.specs.declared.fault.ListingFault.{ListingFault}
use Rattle.listings.specs.Meaning.{listing_limit, listing_meaning}

not_refused : (test : Bool) (fault : ListingFault) (other : Result ImageParts ListingFault) (image : ImageParts)
    → (if test then Err fault else other) ≡ Ok image → test ≡ false
not_refused true fault other image is = absurd (cc)
not_refused false fault other image is = refl

pub good_length : (text : List ℕ) (image : ImageParts) → listing_meaning text ≡ Ok image → length text < 2 ^ 31
unfolding listing_meaning
good_length text image is =
    let short : nat_lt listing_limit (length text) ≡ false = not_refused (nat_lt listing_limit (length text)) _ _ image is in
    grind (arith, nat_tests)
