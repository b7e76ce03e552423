-- The image of a program: its sizes, its memory, its listing.
use Rattle.std.specs.Prelude.{ℕ, ◌+◌, ◌*◌, ◌==◌, nat_lt, Bool, ◌||◌, if◌then◌else◌, List, ◌++◌}
use Rattle.std.specs.Prelude.{length}
use Rattle.std.specs.Prelude.{Option, Some, None, Result, Ok, Err}
use Rattle.cap_model.specs.values.CapValue.{CapValue}
use Rattle.cheri_model.specs.declared.instr.Instr.{Instr}
use Rattle.cheri_model.specs.declared.image.HartImage.{HartImage}
use Rattle.cheri_model.specs.declared.image.TheConstants.{MAX_INSTRUCTIONS}
use Rattle.cheri_model.specs.declared.code.TheConstants.{CODE_BASE, INSTRUCTION_BYTES}
use Rattle.cheri_model.specs.declared.memory.TheConstants.{MAX_RAM_BYTES}
use Rattle.cheri_model.specs.runs.Image.{ImageParts}
use Rattle.cheri_model.specs.runs.ImageRules.{image_of}
use Rattle.listings.specs.Meaning.{listing_limit}
use Rattle.canonical.specs.Canon.{canon}
use Rattle.asm_tokens.specs.declared.fault.AsmFaultKind.{AsmFaultKind}
use Rattle.asm_tokens.specs.declared.fault.AsmFaultKind.TheVariants as faults
use Rattle.asm_tokens.specs.declared.place.Place.{Place}
use Rattle.asm_tokens.specs.Faults.{◌>>=◌}
use Rattle.asm_files.specs.declared.fault.AssemblyFault.{AssemblyFault}
use Rattle.asm_files.specs.declared.requests.RamRequest.{RamRequest}
use Rattle.asm_instructions.specs.Exits.{exit}
use Rattle.asm_starts.specs.Ram.{taken, default_ram, asked_ram}
use Rattle.asm_pictures.specs.declared.image.Picture.{Picture}

abbrev pub fault_at : ℕ → AsmFaultKind → Place → AssemblyFault
fault_at file kind place = record { file = file; fault = record { kind = kind; place = place } }

-- a fault of the whole, which is at no place
abbrev pub whole : AsmFaultKind → AssemblyFault
whole kind = fault_at 0 kind (record { line = 0; column = 0 })

-- how many instructions a program has, with the guard and the exit
abbrev pub total : ℕ → Bool → ℕ
total instructions there = if there then instructions + 2 else instructions

-- some instructions, and no more of them, nor of memory, than there can be
unfoldable pub sizes_judged : ℕ → Bool → ℕ → Result (Unit {0}) AssemblyFault
sizes_judged instructions there memory_end =
    if (instructions == 0) || nat_lt MAX_INSTRUCTIONS (total instructions there)
    || nat_lt MAX_RAM_BYTES (taken memory_end)
    then Err (whole faults.Size)
    else Ok tt

-- the address of the exit, behind the guard
abbrev pub exit_address : ℕ → Bool → Option ℕ
exit_address instructions there =
    if there then Some (CODE_BASE + INSTRUCTION_BYTES * (instructions + 1)) else None

abbrev pub or_fault : {X : Type 0} → AssemblyFault → Option X → Result X AssemblyFault
or_fault fault (Some x) = Ok x
or_fault fault None = Err fault

-- the size of RAM, which a request may say
abbrev pub ram_of : Option RamRequest → ℕ → Result ℕ AssemblyFault
ram_of (Some request) memory_end =
    or_fault (fault_at request.file faults.Hart request.place) (asked_ram request.size memory_end)
ram_of None memory_end = or_fault (whole faults.Size) (default_ram memory_end)

-- the program with the guard and the exit, if they are to follow
abbrev pub program_with : List Instr → Bool → List Instr
program_with program there = if there then program ++ exit else program

-- an image whose canonical listing is no longer than a listing may be
abbrev pub listed : ImageParts → Result ImageParts AssemblyFault
listed image =
    if nat_lt listing_limit (length (canon image)) then Err (whole faults.Size) else Ok image

-- an image with its canonical listing
abbrev pub picture_parts : Picture → ImageParts
picture_parts picture = picture.image

-- the image of these parts
unfoldable pub image_made : List Instr → ℕ → List (ℕ × CapValue) → List HartImage
    → Result ImageParts AssemblyFault
image_made program ram granules harts =
    or_fault (whole faults.Size) (image_of program ram granules harts) >>= listed
