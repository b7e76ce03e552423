-- What the program answers to its command line, and how it ends.
use Rattle.std.specs.Prelude.{◌≡◌, ◌⊎◌, ℕ, Bool, true, false, List, [], ◌∷◌, map, codes, Option}
use Rattle.std.specs.Prelude.{Some, None, Result, Ok, Err, String}
use Rattle.std.specs.Global.{Global}
use Rattle.canonical.specs.Canon.{canon}
use Rattle.asm_files.specs.Faults.{IsNoMemory}
use Rattle.asm_files.specs.declared.fault.AssemblyFault.{AssemblyFault}
use Rattle.asm_pictures.specs.Asked.{HartsParts, requested, words, count}
use Rattle.asm_image.specs.Whole.{AssembledParts, assembly_meaning, map_of}
use Rattle.asm_line.specs.Requests.{AsmAsked}
use Rattle.asm_maps.specs.Maps.{map_text}
use Rattle.asm_maps.specs.declared.line.MapLine.{MapLine}
use Rattle.asm_mapping.specs.Lines.{line_parts}
use Rattle.inputs.specs.Arguments.{command_args}
use Rattle.inputs.specs.Files.{KnownFiles}
use Rattle.printing.specs.Endings.{EndsBy, FailsBy}
use Rattle.program_io.specs.Endings.{IsTold}
use Rattle.program_io.specs.declared.fault.Fault.TheVariants.{Usage}
use Rattle.asm_program.specs.Faults.{Answer, Fault, assembly_fault, failure_of, fault_text}
use Rattle.asm_program.specs.Faults.{status_of}
use Rattle.asm_program.specs.Texts.{OfFiles}

-- the command line of the arguments that are given after the program's name
abbrev pub command_line : List (String Global) → List (List ℕ)
command_line args = command_args (codes "cheri_asm") args

-- the harts that are asked for
abbrev pub harts_told : List (List ℕ) → HartsParts
harts_told [] = requested
harts_told (hart ∷ harts) = words (hart ∷ harts)

abbrev pub harts_by : List (List ℕ) → Option ℕ → HartsParts
harts_by harts None = harts_told harts
harts_by harts (Some n) = count n

-- this is the text that is printed of what files mean: the canonical listing, or the map
abbrev pub IsText : Bool → List (List ℕ) → AssembledParts → List ℕ → Type 0
IsText false names parts text = text ≡ canon parts.image
IsText true names parts text =
    (lines : List MapLine) × (map line_parts lines ≡ map_of parts names) × (text ≡ map_text lines)

-- the answers to files that were read
abbrev pub IsPrinted : AsmAsked → Result AssembledParts AssemblyFault → Answer → Type 0
IsPrinted asked (Ok parts) (Ok (text, end)) = IsText asked.map asked.files parts text
IsPrinted asked (Ok parts) (Err fault) = ⊥
IsPrinted asked (Err fault) answer = answer ≡ Err (assembly_fault fault)

abbrev pub IsAssembled : AsmAsked → List (List ℕ) → Answer → Type 0
IsAssembled asked texts answer =
    IsPrinted asked (assembly_meaning texts (harts_by asked.harts asked.count)) answer

-- why files were refused: memory ran out, or the answer is a fault
abbrev pub IsRefused : AsmAsked → List (List ℕ) → AssemblyFault → Type 0
IsRefused asked texts fault =
    IsNoMemory fault ⊎ IsAssembled asked texts (Err (assembly_fault fault))

-- the answers to a request; `usage` where the arguments ask for nothing
abbrev pub IsAnswer : KnownFiles → Option AsmAsked → Answer → Type 0
IsAnswer files None answer = answer ≡ Err Usage
IsAnswer files (Some asked) answer =
    OfFiles (map files asked.files) (λ texts. IsAssembled asked texts answer) answer

-- a request fails with this exit status; standard error got the fault's line, or a prefix of it
abbrev pub FailsWith : KnownFiles → Option AsmAsked → ℕ → Option (List ℕ) → Option (List ℕ)
    → Option (List ℕ) → Option (List ℕ) → Type 0
FailsWith files request status old new err_old err_new =
    EndsBy status_of fault_text
    (λ fault. FailsBy (failure_of fault) (IsAnswer files request) fault old new)
    status err_old err_new

-- A command that ended so has this exit status. Of a fault standard error got the line, or a prefix
-- of it.
abbrev pub Concludes : Result (Unit {0}) Fault → ℕ → Option (List ℕ) → Option (List ℕ) → Type 0
Concludes (Ok end) status old new = (status ≡ 0) × (new ≡ old)
Concludes (Err fault) status old new = IsTold status_of fault_text fault status old new
