-- Which parts make an image: the limits of its sizes, and how its granules are listed.
use Rattle.std.specs.Prelude.{ℕ, ◌+◌, ◌%◌, ◌==◌, nat_le, Bool, true, not, ◌&&◌, ◌||◌, if◌then◌else◌}
use Rattle.std.specs.Prelude.{List, [], ◌∷◌, length, Option, Some, None}
use Rattle.cheri_model.specs.declared.instr.Instr.{Instr}
use Rattle.cheri_model.specs.declared.image.TheConstants.{MAX_INSTRUCTIONS, MAX_HARTS}
use Rattle.cheri_model.specs.declared.memory.TheConstants.{GRANULE_BYTES, MAX_RAM_BYTES}
use Rattle.cheri_model.specs.declared.image.HartImage.{HartImage}
use Rattle.cap_model.specs.values.CapValue.{CapValue, bits_of, tag_of}
use Rattle.cheri_model.specs.steps.Memory.{ram_base}
use Rattle.cheri_model.specs.runs.Image.{ImageParts}

abbrev pub is_between : ℕ → ℕ → ℕ → Bool
is_between low high n = nat_le low n && nat_le n high

-- tagged, or not all 0
abbrev pub is_listed : CapValue → Bool
is_listed v = tag_of v || not (bits_of v == 0)

-- a granule of RAM whose address is aligned and no lower than `from`, and whose value is worth
-- listing
abbrev pub is_granule : ℕ → ℕ → ℕ → CapValue → Bool
is_granule ram from addr v =
    nat_le from addr && (addr % GRANULE_BYTES == 0)
    && nat_le (addr + GRANULE_BYTES) (ram_base + ram) && is_listed v

-- such granules, whose addresses rise strictly
unfoldable pub are_granules : ℕ → ℕ → List (ℕ × CapValue) → Bool
are_granules ram from [] = true
are_granules ram from (g ∷ rest) = is_granule ram from g.0 g.1 && are_granules ram (g.0 + 1) rest

-- 1 to 16,384 instructions; RAM of 16 to 1,048,576 bytes, a multiple of 16; 1 to 8 harts
abbrev pub are_sizes : ℕ → ℕ → ℕ → Bool
are_sizes instructions ram harts =
    is_between 1 MAX_INSTRUCTIONS instructions && is_between GRANULE_BYTES MAX_RAM_BYTES ram
    && (ram % GRANULE_BYTES == 0)
    && is_between 1 MAX_HARTS harts

unfoldable pub is_image : ImageParts → Bool
is_image image =
    are_sizes (length image.program) image.ram (length image.harts)
    && are_granules image.ram ram_base image.granules

-- the image of these parts, if they make one
unfoldable pub image_of : List Instr → ℕ → List (ℕ × CapValue) → List HartImage → Option ImageParts
image_of program ram granules harts =
    let image : ImageParts =
    record { program = program; ram = ram; granules = granules; harts = harts } in
    if is_image image then Some image else None
