-- No answer has a float.
use Rattle.std.proofs.Common.{◌≡◌, List, refl}
use Rattle.std.specs.Prelude.{false, Vec}
use Rattle.std.specs.Global.{Global}
use Rattle.serde_json.specs.Written.{has_float}
use Rattle.authority_texts.specs.declared.told.Told.{Told}
use Rattle.authority_texts.proofs.JsonLemmas.{list_no_float, lists_no_float}
use Rattle.reduced_texts.proofs.DataLemmas.{reduced_no_float}
use Rattle.report_lines.proofs.JsonLemmas.{image_no_float}
use Rattle.alike_authority.specs.AlikeAuthorityTexts.{HeadParts, alike_data, alike_object}

pub object_no_float : (head : HeadParts) (harts : List (Vec Told Global)) (memory : List Told) →
    has_float (alike_data head harts memory) ≡ false
unfolding alike_object
object_no_float head harts memory =
    rw (lists_no_float harts, image_no_float head.image, list_no_float memory, reduced_no_float head.left_out) refl
