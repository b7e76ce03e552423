-- No answer has a float.
use Rattle.std.proofs.Common.{◌≡◌, ℕ, Bool, false, List, [], ◌∷◌, map, refl}
use Rattle.std.specs.Prelude.{Vec}
use Rattle.std.specs.Global.{Global}
use Rattle.serde_json.specs.View.{items_of}
use Rattle.serde_json.specs.Written.{has_float, items_have_float}
use Rattle.cheri_model.specs.runs.Image.{ImageParts}
use Rattle.authority_texts.specs.AuthorityTexts.{authority_data, list_data, object_of, rights_data}
use Rattle.authority_texts.specs.declared.told.Told.{Told}
use Rattle.report_lines.proofs.JsonLemmas.{image_no_float}

rights_no_float : (t : Told) → has_float (rights_data t) ≡ false
unfolding rights_data
rights_no_float t = refl

pub list_no_float : (list : List Told) → items_have_float (items_of (map rights_data list)) ≡ false
list_no_float [] = refl
list_no_float (t ∷ list) = rw (rights_no_float t) (list_no_float list)

pub lists_no_float : (lists : List (Vec Told Global)) → items_have_float (items_of (map (λ list. list_data list.items) lists)) ≡ false
lists_no_float [] = refl
lists_no_float (l ∷ lists) = rw (list_no_float l.items) (lists_no_float lists)

pub object_no_float : (complete : Bool) (image : ImageParts) (states : ℕ) (harts : List (Vec Told Global)) (memory : List Told)
    → has_float (authority_data complete image states harts memory) ≡ false
unfolding object_of
object_no_float complete image states harts memory =
    rw (lists_no_float harts, image_no_float image, list_no_float memory) refl
