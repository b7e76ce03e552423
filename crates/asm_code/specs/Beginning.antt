-- Code before its statements' instructions are known: as many that do nothing, with origins.
use Rattle.std.specs.Prelude.{ℕ, ◌+◌, ◌-◌, ◌/◌, ◌==◌, min, if◌then◌else◌, pos, List, [], ◌∷◌}
use Rattle.std.specs.Prelude.{replicate, Option, Some, None}
use Rattle.cheri_model.specs.declared.image.TheConstants.{MAX_INSTRUCTIONS}
use Rattle.cheri_model.specs.declared.code.TheConstants.{INSTRUCTION_BYTES}
use Rattle.cheri_model.specs.declared.instr.Instr.{Instr}
use Rattle.cheri_model.specs.declared.instr.Instr.TheVariants.{Addi}
use Rattle.asm_expressions.specs.Tokens.{place_at}
use Rattle.asm_layout.specs.declared.chunk.ChunkKind.TheVariants.{Code}
use Rattle.asm_layout.specs.Placement.{rank}
use Rattle.asm_statements.specs.declared.statement.Body.{Body}
use Rattle.asm_statements.specs.declared.statement.Body.TheVariants.{Instruction, Align, Balign}
use Rattle.asm_statements.specs.Statements.{StatementParts}
use Rattle.asm_files.specs.declared.stand.Stand.{Stand}
use Rattle.asm_files.specs.Programs.{FileParts, tokens_in}
use Rattle.asm_late.specs.Late.{LateParts}
use Rattle.asm_instructions.specs.declared.origin.Origin.{Origin}
use Rattle.asm_code.specs.Code.{CodeParts}
use Rattle.asm_instructions.specs.Origins.{marked, filled}
use Rattle.asm_code.specs.Standing.{stand_of, kind_of, index_of}

-- a step for each item, which is given the item's number
unfoldable pub steps_from : {X S : Type 0} → (ℕ → X → S → S) → ℕ → List X → S → S
steps_from step number [] state = state
steps_from step number (x ∷ xs) state = steps_from step (number + 1) xs (step number x state)

-- the token of the name of an instruction, or of padding
abbrev pub name_or : ℕ → Body → ℕ
name_or first (Instruction at operation) = at
name_or first (Align at) = at
name_or first (Balign at) = at
name_or first _ = first

abbrev pub name_of : StatementParts → ℕ
name_of statement = name_or statement.first statement.body

unfoldable pub origin_of : LateParts → ℕ → ℕ → StatementParts → Origin
origin_of late file number statement =
    record {
      file = file;
      line = (place_at (tokens_in late.program file) (name_of statement)).line;
      statement = Some number;
    }

-- how many instructions a statement has
abbrev pub count_of : Stand → ℕ
count_of stand = (stand.end - stand.offset) / INSTRUCTION_BYTES

unfoldable pub statement_marked : LateParts → ℕ → ℕ → StatementParts → List (Option Origin)
    → List (Option Origin)
statement_marked late file number statement marks =
    if rank (kind_of late file number) == rank Code then
    marked marks (index_of late file number) (count_of (stand_of late file number))
    (origin_of late file number statement)
    else marks

unfoldable pub file_marked : LateParts → ℕ → FileParts → List (Option Origin)
    → List (Option Origin)
file_marked late file parts marks = steps_from (statement_marked late file) 0 parts.statements marks

unfoldable pub all_marked : LateParts → List (Option Origin) → List (Option Origin)
all_marked late marks = steps_from (file_marked late) 0 late.program.files marks

-- an instruction that does nothing
abbrev pub nop : Instr
nop = Addi 0 0 (pos 0)

-- no more instructions than a program may have
abbrev pub room_of : LateParts → ℕ
room_of late = min late.linked.instructions MAX_INSTRUCTIONS

unfoldable pub code_begun : LateParts → CodeParts
code_begun late =
    record {
      instructions = replicate (room_of late) nop;
      origins = filled (all_marked late (replicate (room_of late) None));
    }
