-- How large the opening state of an image is.
use Rattle.std.proofs.Common.{◌≡◌, ℕ, ◌*◌, ◌/◌, List, [], ◌∷◌, length, fold, arith, ◌∙◌, refl, length-set}
use Rattle.std.specs.Prelude.{true}
use Rattle.std.proofs.lemmas.List.{length-map, length-replicate}
use Rattle.cap_model.specs.values.CapValue.{CapValue, raw}
use Rattle.cheri_model.specs.steps.Memory.{granule_number, store_capability, cleared_memory}
use Rattle.cheri_model.specs.runs.Image.{ImageParts, opening_hart, opening_memory}
use Rattle.cheri_model.specs.runs.ImageRules.{is_image}
use Rattle.cheri_model.specs.runs.Machine.{opening_state}
use Rattle.cheri_model.proofs.Granules.ImageGranules.{image_ram}

stored : (memory : List CapValue) (granules : List (ℕ × CapValue)) →
    length (fold (λ (m : List CapValue) (entry : ℕ × CapValue). store_capability m entry.0 entry.1) memory granules) ≡ length memory
unfolding store_capability
stored memory [] = refl
stored memory (g ∷ rest) =
    stored (store_capability memory g.0 g.1) rest ∙ length-set memory (granule_number g.0) g.1

pub opening_granules : (image : ImageParts) → is_image image ≡ true →
    16 * length (opening_state image).memory ≡ image.ram
unfolding opening_state opening_memory
opening_granules image is =
    let size : length (opening_memory image.ram image.granules) ≡ image.ram / 16 =
    stored (cleared_memory image.ram) image.granules ∙ length-replicate (image.ram / 16) (raw 0) in
    let whole = image_ram image is in
    omega arith

pub opening_harts : (image : ImageParts) → length (opening_state image).harts ≡ length image.harts
unfolding opening_state
opening_harts image = length-map image.harts opening_hart
