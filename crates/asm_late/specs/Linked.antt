-- A program that is linked.
use Rattle.std.specs.Prelude.{ℕ, Bool, List, length, Option, Result, Ok}
use Rattle.asm_tokens.specs.Faults.{◌>>=◌}
use Rattle.asm_values.specs.declared.values.Value.{Value}
use Rattle.asm_capabilities.specs.declared.code.Reach.{Reach}
use Rattle.asm_layout.specs.Layout.{LayoutParts, layout_parts, layout_of}
use Rattle.asm_symbols.specs.Names.{names_of}
use Rattle.asm_places.specs.Places.{PlacesParts}
use Rattle.asm_files.specs.declared.fault.AssemblyFault.{AssemblyFault}
use Rattle.asm_files.specs.Programs.{ProgramParts}
use Rattle.asm_links.specs.Order.{order_of}
use Rattle.asm_links.specs.Sections.{sections_judged}
use Rattle.asm_links.specs.Seen.{seen_of}
use Rattle.asm_links.specs.Sizes.{first_sizes}
use Rattle.asm_chains.specs.Chains.{known_values}
use Rattle.asm_chains.specs.Scenes.{SceneParts}
use Rattle.asm_late.specs.declared.linked.Linked.{Linked}
use Rattle.asm_late.specs.Lengths.{lengths_from}
use Rattle.asm_late.specs.Reach.{instructions_to, reach_of}
use Rattle.asm_late.specs.Scene.{scene_of}
use Rattle.asm_tables.specs.Tables.{TableParts, table_parts, table_of}

-- the names that all files see, the symbols of the capability table, where everything is, the
-- values of symbols and their bytes, what code reaches, and how many instructions there are
pub record LinkedParts : Type 0 where
  pub seen : List ℕ → Option ℕ
  pub table : TableParts
  pub layout : LayoutParts
  pub values : List (Option Value)
  pub sizes : List (Option ℕ)
  pub lengths : List ℕ
  pub reach : Reach
  pub instructions : ℕ

abbrev pub linked_parts : Linked → LinkedParts
linked_parts linked =
    record {
      seen = names_of linked.seen;
      table = table_parts linked.table;
      layout = layout_parts linked.layout;
      values = linked.values.items;
      sizes = linked.sizes.items;
      lengths = linked.lengths.items;
      reach = linked.reach;
      instructions = linked.instructions;
    }

abbrev pub places_by : ProgramParts → LayoutParts → PlacesParts
places_by program layout =
    record { chunks = program.made.chunks; addresses = layout.addresses }

-- what follows from where everything is
abbrev pub linked_by : ProgramParts → Bool → (List ℕ → Option ℕ) → TableParts → LayoutParts
    → SceneParts → List (Option Value) → LinkedParts
linked_by program exits seen table layout scene values =
    record {
      seen = seen;
      table = table;
      layout = layout;
      values = values;
      sizes = first_sizes program;
      lengths =
          lengths_from program scene values (first_sizes program) 0 program.made.symbols;
      reach = reach_of program scene values exits (instructions_to layout.code_end);
      instructions = instructions_to layout.code_end;
    }

abbrev pub linked_at : ProgramParts → Bool → (List ℕ → Option ℕ) → TableParts → LayoutParts
    → LinkedParts
linked_at program exits seen table layout =
    let scene = scene_of program seen (places_by program layout) in
    linked_by program exits seen table layout scene (known_values scene)

unfoldable pub linked_with : ProgramParts → Bool → (List ℕ → Option ℕ) → LinkedParts
linked_with program exits seen =
    let table = table_of program seen in
    linked_at program exits seen table
    (layout_of program.made.chunks (order_of program) (length table.symbols))

-- the program, or the first fault of names that two files want all files to see, and of sections of
-- two kinds
unfoldable pub linked_of : ProgramParts → Bool → Result LinkedParts AssemblyFault
linked_of program exits = do
  seen ← seen_of program
  _ ← sections_judged program
  Ok (linked_with program exits seen)
