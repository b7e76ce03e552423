-- Registers that are filled one after another behind c0.
use Rattle.std.proofs.Common.{◌≡◌, ℕ, zero, suc, ◌<◌, List, ◌∷◌, length, get_or, refl, sym, subst, arith}
use Rattle.std.proofs.Math.ListN.{length-set}
use Rattle.std.specs.Prelude.{All, ◌%◌, ◌==◌, ◌&&◌, true}
use Rattle.std.proofs.lemmas.Bool.{and_parts}
use Rattle.cheri_model.specs.runs.Image.{ImageParts}
use Rattle.cheri_model.specs.runs.ImageRules.{is_image, are_sizes, is_between}
use Rattle.cap_model.specs.values.CapValue.{CapValue}
use Rattle.cheri_model.specs.steps.Memory.{store_capability, is_ram_size}

-- lists whose first elements are equal are equal below 1
pub same_first : {X : Type 0} (x y : X) (xs ys : List X) → x ≡ y → (k : ℕ) (d : X) → k < 1 → get_or (x ∷ xs) k d ≡ get_or (y ∷ ys) k d
same_first x y xs ys same zero d below = same
same_first x y xs ys same (suc k) d below = absurd (omega arith)

-- what holds of each element of a list holds of the one that was read at an index
pub at_item : {X : Type 0} (P : X → Type 0) (xs : List X) (i : ℕ) (x : X) → i < length xs → x ≡ get_or xs i x → All P xs → P x
at_item P xs i x inside is each = subst P (sym is) (each i x inside)

-- a memory keeps its size where a granule is stored
pub length-store_capability : (memory : List CapValue) (addr : ℕ) (v : CapValue) → length (store_capability memory addr v) ≡ length memory
unfolding store_capability
length-store_capability memory addr v = simp length-set

-- the size of an image's RAM is one that RAM may have
pub image_ram_size : (image : ImageParts) → is_image image ≡ true → is_ram_size image.ram ≡ true
unfolding is_image
image_ram_size image is =
    let sizes = (and_parts (are_sizes (length image.program) image.ram (length image.harts)) _ is).0 in
    let ram = (and_parts (is_between 1 16384 (length image.program) && is_between 16 1048576 image.ram && (image.ram % 16 == 0)) _ sizes).0 in
    let between = and_parts (is_between 1 16384 (length image.program) && is_between 16 1048576 image.ram) _ ram in
    let low = (and_parts (is_between 1 16384 (length image.program)) _ between.0).1 in
    rw (low, between.1) refl
