-- Where the granules of an image lie: aligned and wholly in its RAM.
use Rattle.std.proofs.Common.{◌≡◌, ◌==◌, ℕ, ◌+◌, ◌*◌, ◌%◌, ◌≤◌, true, ◌&&◌, List, [], ◌∷◌, length, arith, eqb-true, leb-true}
use Rattle.std.specs.Prelude.{All, IsTrue, nat_le}
use Rattle.std.proofs.lemmas.Bool.{and_parts}
use Rattle.std.proofs.lemmas.Bool.Decides.{nat_tests}
use Rattle.std.proofs.lemmas.List.Elements.{All-nil, All-cons}
use Rattle.cap_model.specs.values.CapValue.{CapValue}
use Rattle.cheri_model.specs.steps.Memory.{ram_base, fits}
use Rattle.cheri_model.specs.runs.Image.{ImageParts}
use Rattle.cheri_model.specs.runs.ImageRules.{is_granule, are_granules, are_sizes, is_image}

pub record IsPlaced (ram : ℕ) (entry : ℕ × CapValue) : Type 0 where
  pub aligned : entry.0 % 16 ≡ 0
  pub from : ram_base ≤ entry.0
  pub to : entry.0 + 16 ≤ ram_base + ram

placed_one : (ram from addr : ℕ) (v : CapValue) → ram_base ≤ from → is_granule ram from addr v ≡ true → IsPlaced ram (addr, v)
placed_one ram from addr v above is =
    let listed = and_parts (nat_le from addr && (addr % 16 == 0) && nat_le (addr + 16) (ram_base + ram)) _ is in
    let ends = and_parts (nat_le from addr && (addr % 16 == 0)) _ listed.0 in
    let starts = and_parts (nat_le from addr) _ ends.0 in
    let low = leb-true _ _ starts.0 in
    record { aligned = eqb-true _ _ starts.1; from = omega arith; to = leb-true _ _ ends.1 }

pub granules_placed : (ram from : ℕ) (granules : List (ℕ × CapValue)) → ram_base ≤ from → are_granules ram from granules ≡ true → All (IsPlaced ram) granules
unfolding are_granules
granules_placed ram from [] above is = All-nil (IsPlaced ram)
granules_placed ram from (g ∷ granules) above is =
    let both = and_parts (is_granule ram from g.0 g.1) _ is in
    let first = placed_one ram from g.0 g.1 above both.0 in
    All-cons (IsPlaced ram) g granules first (granules_placed ram (g.0 + 1) granules (let low = first.from in omega arith) both.1)

pub image_placed : (image : ImageParts) → is_image image ≡ true → All (IsPlaced image.ram) image.granules
unfolding is_image
image_placed image is = granules_placed image.ram ram_base image.granules (omega arith) (and_parts (are_sizes (length image.program) image.ram (length image.harts)) _ is).1

pub image_ram : (image : ImageParts) → is_image image ≡ true → image.ram % 16 ≡ 0
unfolding is_image
image_ram image is =
    let sizes = (and_parts (are_sizes (length image.program) image.ram (length image.harts)) _ is).0 in
    eqb-true _ _ (and_parts _ (image.ram % 16 == 0) (and_parts _ _ sizes).0).1

-- such a granule fits a memory of that size
pub placed_fits : (ram : ℕ) (memory : List CapValue) (entry : ℕ × CapValue) → 16 * length memory ≡ ram → IsPlaced ram entry → IsTrue (fits memory entry.0 16)
placed_fits ram memory entry size placed =
    let a = placed.aligned in let b = placed.from in let c = placed.to in
    let d : entry.0 + 16 ≤ ram_base + 16 * length memory = omega arith in
    grind (arith, nat_tests)
