-- What names of expressions mean in a program.
use Rattle.std.specs.Prelude.{ℕ, List, [], map, Option, Some, None}
use Rattle.asm_values.specs.declared.values.Value.{Value}
use Rattle.asm_values.specs.declared.values.Value.TheVariants.{At}
use Rattle.asm_expressions.specs.declared.node.Node.{Node}
use Rattle.asm_expressions.specs.declared.node.NodeKind.{NodeKind}
use Rattle.asm_expressions.specs.declared.node.NodeKind.TheVariants as kinds
use Rattle.asm_expressions.specs.Tokens.{text_at}
use Rattle.asm_symbols.specs.declared.definitions.Meaning.{Meaning}
use Rattle.asm_symbols.specs.declared.definitions.Meaning.TheVariants.{Place, Assigned}
use Rattle.asm_symbols.specs.declared.locals.Local.{Local}
use Rattle.asm_symbols.specs.Definitions.{DefinitionParts}
use Rattle.asm_symbols.specs.Names.{names_of}
use Rattle.asm_places.specs.Places.{PlacesParts, places_parts, apart}
use Rattle.asm_files.specs.declared.stand.Stand.{Stand}
use Rattle.asm_files.specs.Programs.{ProgramParts, program_parts, stand_in, tokens_in}
use Rattle.asm_links.specs.Locals.{local_label}
use Rattle.asm_tables.specs.Names.{named, nodes_in}
use Rattle.asm_chains.specs.declared.scene.Leaf.{Leaf}
use Rattle.asm_chains.specs.declared.scene.Leaf.TheVariants.{Is, Stands, Missing}
use Rattle.asm_chains.specs.declared.scene.Setting.{Setting}
use Rattle.asm_late.specs.declared.scene.ProgramScene.{ProgramScene}
use Rattle.asm_chains.specs.Scenes.{SceneParts, SymbolParts, no_symbol}

abbrev pub stands_or_missing : Option ℕ → Leaf
stands_or_missing (Some symbol) = Stands symbol
stands_or_missing None = Missing

-- a place that no symbol names
abbrev pub is_or_missing : Option Local → Leaf
is_or_missing (Some local) =
    Is (At (record { chunk = local.chunk; offset = local.offset; symbol = None }))
is_or_missing None = Missing

abbrev pub leaf_by : ProgramParts → (List ℕ → Option ℕ) → Setting → ℕ → NodeKind → Leaf
leaf_by program seen setting at kinds.Symbol =
    stands_or_missing
    (named program seen setting.file (text_at (tokens_in program setting.file) at))
leaf_by program seen setting at kinds.Local =
    is_or_missing (local_label program setting.file setting.statement
    (text_at (tokens_in program setting.file) at))
leaf_by program seen setting at kinds.Dot = Is (At setting.dot)
leaf_by program seen setting at _ = Missing

-- a symbol, a local label or `.`
unfoldable pub leaf_of : ProgramParts → (List ℕ → Option ℕ) → Setting → Node → Leaf
leaf_of program seen setting node = leaf_by program seen setting node.at node.kind

-- where a statement is, with its own place as `.`
unfoldable pub setting_of : ProgramParts → ℕ → ℕ → Setting
setting_of program file statement =
    let stand = stand_in program file statement in
    record {
      file = file;
      statement = statement;
      dot = record { chunk = stand.chunk; offset = stand.offset; symbol = None };
    }

-- a symbol: its place, or the expression of the statement that sets it
abbrev pub symbol_by : ProgramParts → DefinitionParts → Meaning → SymbolParts
symbol_by program symbol (Place chunk offset) =
    record { own = symbol.early; setting = no_symbol.setting; nodes = [] }
symbol_by program symbol (Assigned statement) =
    record {
      own = None;
      setting = setting_of program symbol.file statement;
      nodes = nodes_in program symbol.file statement 0;
    }

unfoldable pub symbol_of : ProgramParts → DefinitionParts → SymbolParts
symbol_of program symbol = symbol_by program symbol symbol.meaning

unfoldable pub scene_of : ProgramParts → (List ℕ → Option ℕ) → PlacesParts → SceneParts
scene_of program seen places =
    record {
      symbols = map (symbol_of program) program.made.symbols;
      leaf = leaf_of program seen;
      apart = apart places;
    }

-- what a scene in memory says, and its program
abbrev pub scene_program : ProgramScene → ProgramParts
scene_program scene = program_parts scene.program.now

abbrev pub scene_parts : ProgramScene → SceneParts
scene_parts scene =
    scene_of (scene_program scene) (names_of scene.seen.now) (places_parts scene.places)
