-- The images that have a listing: what listings can write (this project's own format).
use Rattle.std.specs.Prelude.{◌≡◌, ⊤, ℕ, ℤ, pos, negsuc, ◌*◌, ◌^◌, ◌<◌, ◌≤◌, true, List, length, Ok}
use Rattle.std.specs.List.{AllByRecursion}
use Rattle.cheri_model.specs.declared.image.HartImage.{HartImage}
use Rattle.cheri_model.specs.declared.image.TheConstants.{MAX_HARTS, MAX_INSTRUCTIONS}
use Rattle.cheri_model.specs.declared.form.Form.{Form}
use Rattle.cheri_model.specs.declared.form.Form.TheVariants as form
use Rattle.cheri_model.specs.declared.memory.TheConstants.{GRANULE_BYTES}
use Rattle.cheri_model.specs.declared.operands.TheConstants.{MAX_IMMEDIATE, MAX_SHIFT}
use Rattle.cheri_model.specs.declared.operands.TheConstants.{MAX_WORD_SHIFT, MAX_IMMEDIATE_LENGTH}
use Rattle.cheri_model.specs.declared.operands.TheConstants.{MAX_UPPER_IMMEDIATE}
use Rattle.cheri_model.specs.instructions.Form.{form_of}
use Rattle.cap_model.specs.values.Capability.{IsLawful, unsealed_type}
use Rattle.cap_model.specs.values.CapValue.{CapValue, valid, raw}
use Rattle.cheri_model.specs.steps.Memory.{ram_base, is_ram_size}
use Rattle.cheri_model.specs.runs.Image.{ImageParts}
use Rattle.listings.specs.Meaning.{listed_from, listing_limit, listing_meaning}

-- any untagged word, and each lawful capability whose flag is 0
abbrev pub IsWritable : CapValue → Type 0
IsWritable (valid c) = IsLawful c × (c.flag ≡ 0)
IsWritable (raw word) = word < 2 ^ 128

-- a PCC is tagged and unsealed
abbrev pub IsWritablePcc : CapValue → Type 0
IsWritablePcc (valid c) = IsLawful c × (c.flag ≡ 0) × (c.otype ≡ unsealed_type)
IsWritablePcc (raw word) = ⊥

pub record IsWritableHart (hart : HartImage) : Type 0 where
  pub program_counter : IsWritablePcc hart.pcc
  pub count : length hart.regs ≡ 31
  pub values : AllByRecursion IsWritable hart.regs

-- an immediate of 12 bits
abbrev pub Is12Bits : ℤ → Type 0
Is12Bits (pos n) = n ≤ MAX_IMMEDIATE
Is12Bits (negsuc n) = n ≤ MAX_IMMEDIATE

-- operands in their ranges, in a listing with this many instruction lines
abbrev pub IsReadable : ℕ → Form → Type 0
IsReadable count (form.Three op cd c1 c2) = (cd < 32) × (c1 < 32) × (c2 < 32)
IsReadable count (form.Two op cd c1) = (cd < 32) × (c1 < 32)
IsReadable count (form.Immediate op cd c1 imm) = (cd < 32) × (c1 < 32) × Is12Bits imm
IsReadable count (form.Shift op cd c1 amount) = (cd < 32) × (c1 < 32) × (amount ≤ MAX_SHIFT)
IsReadable count (form.WordShift op cd c1 amount) =
    (cd < 32) × (c1 < 32) × (amount ≤ MAX_WORD_SHIFT)
IsReadable count (form.SetBoundsImm cd c1 len) =
    (cd < 32) × (c1 < 32) × (len ≤ MAX_IMMEDIATE_LENGTH)
IsReadable count (form.Upper op cd imm) = (cd < 32) × (imm ≤ MAX_UPPER_IMMEDIATE)
IsReadable count (form.Load op cd c1 imm) = (cd < 32) × (c1 < 32) × Is12Bits imm
IsReadable count (form.Store op c2 c1 imm) = (c2 < 32) × (c1 < 32) × Is12Bits imm
IsReadable count (form.Swap cd c2 c1) = (cd < 32) × (c2 < 32) × (c1 < 32)
IsReadable count (form.Branch op c1 c2 target) = (c1 < 32) × (c2 < 32) × (target ≤ count)
IsReadable count (form.Jump cd target) = (cd < 32) × (target ≤ count)
IsReadable count (form.Invoke c1 c2) = (c1 < 32) × (c2 < 32)
IsReadable count form.Alone = ⊤

-- Memory is of writable values, of which the image lists those worth it; so are the harts; the
-- instructions are in their ranges; and there are as many of each as an image may have.
pub record IsListable (image : ImageParts) : Type 0 where
  pub memory : List CapValue
  pub size : is_ram_size image.ram ≡ true
  pub whole : image.ram ≡ GRANULE_BYTES * length memory
  pub listed : image.granules ≡ listed_from ram_base memory
  pub values : AllByRecursion IsWritable memory
  pub writable_harts : AllByRecursion IsWritableHart image.harts
  pub some_harts : 0 < length image.harts
  pub most_harts : length image.harts ≤ MAX_HARTS
  pub readable : AllByRecursion (λ i. IsReadable (length image.program) (form_of i)) image.program
  pub some_instructions : 0 < length image.program
  pub most_instructions : length image.program ≤ MAX_INSTRUCTIONS

-- Where some listing means an image, a text that is no longer than a listing may be means it again.
abbrev pub ReadsBack : ImageParts → List ℕ → Type 0
ReadsBack image text =
    (listing : List ℕ) → listing_meaning listing ≡ Ok image → length text ≤ listing_limit
    → listing_meaning text ≡ Ok image
