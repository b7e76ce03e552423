-- The symbols that all files see.
use Rattle.std.specs.Prelude.{◌≡◌, ◌⊎◌, ℕ, ◌+◌, Bool, true, false, if◌then◌else◌, List, [], ◌∷◌}
use Rattle.std.specs.Prelude.{slice_index_or, map, Option, Some, None, Result, Ok, Err}
use Rattle.std.specs.Option.{is_some, is_none}
use Rattle.asm_symbols.specs.declared.globals.PublishFault.{PublishFault}
use Rattle.asm_symbols.specs.declared.globals.PublishFault.TheVariants.{Twice, NoMemory}
use Rattle.asm_symbols.specs.declared.names.Names.{Names}
use Rattle.asm_symbols.specs.Definitions.{DefinitionParts}
use Rattle.asm_symbols.specs.Names.{no_names, first_of, defined, names_of}

-- the names that each file wants all files to see
unfoldable pub wants : List Names → ℕ → List ℕ → Option ℕ
wants wanted file = slice_index_or (map names_of wanted) file no_names

-- whether a symbol's file wants all files to see it
abbrev pub is_wanted : (ℕ → List ℕ → Option ℕ) → DefinitionParts → Bool
is_wanted wanted symbol = is_some (wanted symbol.file symbol.name)

-- The names of the symbols from a number on that all files see, after others; or the first symbol
-- whose name is taken.
unfoldable pub published : (ℕ → List ℕ → Option ℕ) → ℕ → (List ℕ → Option ℕ) → List DefinitionParts
    → Result (List ℕ → Option ℕ) PublishFault
published wanted number names [] = Ok names
published wanted number names (symbol ∷ symbols) =
    if is_wanted wanted symbol then
    if is_none (names symbol.name)
    then published wanted (number + 1) (defined names symbol.name number) symbols
    else Err (Twice number)
    else published wanted (number + 1) names symbols

-- an answer by what symbols mean: that, or its fault, or out of memory
abbrev pub Publishes : Result Names PublishFault → Result (List ℕ → Option ℕ) PublishFault
    → Type 0
Publishes (Ok names) meaning = meaning ≡ Ok (names_of names)
Publishes (Err fault) meaning = (fault ≡ NoMemory) ⊎ (meaning ≡ Err fault)

-- the symbol that a name means in a file: its own, or else one that all files see
abbrev pub symbol_named : (List ℕ → Option ℕ) → (List ℕ → Option ℕ) → List ℕ → Option ℕ
symbol_named own seen name = first_of (own name) (seen name)
