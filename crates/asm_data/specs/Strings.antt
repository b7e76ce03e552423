-- Strings and bytes that are the same, in memory.
use Rattle.std.specs.Prelude.{ℕ, ◌-◌, ◌%◌, Bool, if◌then◌else◌, List, [], ◌∷◌, ◌++◌}
use Rattle.std.specs.List.{flat_map}
use Rattle.cap_model.specs.values.CapValue.{CapValue}
use Rattle.asm_tokens.specs.Strings.{string_of}
use Rattle.asm_tokens.specs.Tokens.{TokenParts}
use Rattle.asm_expressions.specs.Tokens.{text_at}
use Rattle.asm_statements.specs.declared.statement.Operand.{Operand}
use Rattle.asm_statements.specs.Statements.{StatementParts}
use Rattle.asm_files.specs.declared.stand.Stand.{Stand}
use Rattle.asm_files.specs.Programs.{tokens_in}
use Rattle.asm_late.specs.Late.{LateParts}
use Rattle.asm_code.specs.Standing.{stand_of, address_of}
use Rattle.asm_memory.specs.Memory.{bytes_put, fill_put}

-- the bytes of a string, and a 0 after them where strings end so
abbrev pub end_of : Bool → List ℕ
end_of ended = if ended then 0 ∷ [] else []

abbrev pub bytes_of : List TokenParts → Bool → Operand → List ℕ
bytes_of tokens ended operand = string_of (text_at tokens operand.first) ++ end_of ended

unfoldable pub strings_of : List TokenParts → Bool → List Operand → List ℕ
strings_of tokens ended operands = flat_map (bytes_of tokens ended) operands

unfoldable pub strings_stored : LateParts → ℕ → ℕ → StatementParts → Bool → List CapValue
    → List CapValue
strings_stored late file number statement ended memory =
    bytes_put memory (address_of late file number 0 0)
    (strings_of (tokens_in late.program file) ended statement.operands)

-- as many bytes as the statement has
abbrev pub size_of : Stand → ℕ
size_of stand = stand.end - stand.offset

unfoldable pub fill_stored : LateParts → ℕ → ℕ → List CapValue → List CapValue
fill_stored late file number memory =
    let stand = stand_of late file number in
    fill_put memory (address_of late file number 0 0) (size_of stand) (stand.value % 256)
