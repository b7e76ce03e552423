-- The statement that an instruction comes from.
use Rattle.std.specs.Prelude.{◌≡◌, ◌≤◌, ◌<◌, ◌==◌, ◌+◌, ◌-◌, ◌*◌, ◌%◌, ◌^◌, ℕ, true, List}
use Rattle.std.specs.Prelude.{slice_get, Option, Some, None}
use Rattle.cheri_model.specs.declared.code.TheConstants.{CODE_BASE, INSTRUCTION_BYTES}
use Rattle.asm_layout.specs.declared.chunk.ChunkKind.TheVariants.{Code}
use Rattle.asm_layout.specs.Placement.{rank}
use Rattle.asm_statements.specs.Statements.{StatementParts}
use Rattle.asm_files.specs.declared.stand.Stand.{Stand}
use Rattle.asm_files.specs.Programs.{statement_at}
use Rattle.asm_late.specs.Late.{LateParts}
use Rattle.asm_instructions.specs.declared.origin.Origin.{Origin}
use Rattle.asm_code.specs.Standing.{stand_of, kind_of, address_of}
use Rattle.asm_code.specs.Beginning.{origin_of}
use Rattle.asm_mapping.specs.Lines.{LineParts, code}
use Rattle.asm_image.specs.Whole.{AssembledParts}

-- the program of an image, and what everything in it is worth
abbrev pub late_in : AssembledParts → LateParts
late_in a = record { program = a.program; linked = a.linked }

-- how many bytes a statement takes
abbrev pub bytes_of : Stand → ℕ
bytes_of stand = stand.end - stand.offset

-- a statement of code, by its file and its number there, at one of whose bytes an instruction
-- begins
pub record HasInstruction (late : LateParts) (file number : ℕ) (s : StatementParts) (n : ℕ)
    : Type 0 where
  pub there : statement_at late.program file number ≡ Some s
  pub in_code : (rank (kind_of late file number) == rank Code) ≡ true
  pub from : address_of late file number 0 0 ≤ CODE_BASE + INSTRUCTION_BYTES * n
  pub to : CODE_BASE + INSTRUCTION_BYTES * n
      < address_of late file number 0 0 + bytes_of (stand_of late file number)

-- the origin of an instruction: it tells a statement that has the instruction; or that it is in a
-- gap, and then no statement has it
pub data IsOriginOf (late : LateParts) (n : ℕ) (origin : Origin) : Type 0 where
  told : (number : ℕ) (s : StatementParts) → HasInstruction late origin.file number s n
      → origin_of late origin.file number s ≡ origin → IsOriginOf late n origin
  gap : origin.statement ≡ None
      → ((file number : ℕ) (s : StatementParts) → HasInstruction late file number s n → ⊥)
      → IsOriginOf late n origin

-- the line of a map, behind those of so many files, that tells the file and the line of a statement
abbrev pub IsToldIn : List LineParts → ℕ → ℕ → ℕ → ℕ → Type 0
IsToldIn lines files n file line =
    (label : Option (List ℕ × ℕ))
    × (slice_get lines (files + n) ≡ Some (code n ((file + 1) % 2 ^ 64) line label))
