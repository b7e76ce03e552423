-- A text that is the canonical listing of an image reads back.
use Rattle.std.proofs.Common.{◌≡◌, ℕ, List, sym, subst}
use Rattle.cheri_model.specs.runs.Image.{ImageParts}
use Rattle.canonical.specs.Canon.{canon}
use Rattle.canonical.specs.Listable.{ReadsBack}
use Rattle.canonical.proofs.round_trip.Listed.{meant_is_listable}
use Rattle.canonical.proofs.round_trip.Whole.{canon_reads}

pub canon_reads_back : (image : ImageParts) (text : List ℕ) → text ≡ canon image → ReadsBack image text
canon_reads_back image text same =
    subst (ReadsBack image) (sym same) (λ listing e few. canon_reads image (meant_is_listable listing image e) few)
