-- The symbols of a program as a scene has them.
use Rattle.std.proofs.Common.{◌≡◌, ℕ, zero, suc, ◌<◌, true, List, [], ◌∷◌, length, map, get_or, Option, Some, None, refl, sym, ap, ◌∙◌, arith}
use Rattle.std.proofs.Math.Dec.{ltb}
use Rattle.std.proofs.lemmas.Bool.{ltb-true}
use Rattle.std.specs.Prelude.{slice_get}
use Rattle.asm_values.specs.declared.values.Value.{Value}
use Rattle.asm_expressions.specs.declared.node.Node.{Node}
use Rattle.asm_symbols.specs.declared.definitions.Definition.{Definition}
use Rattle.asm_symbols.specs.declared.definitions.Meaning.TheVariants.{Place, Assigned}
use Rattle.asm_symbols.specs.Definitions.{DefinitionParts, definition_parts}
use Rattle.asm_tables.specs.Names.{nodes_in}
use Rattle.asm_chains.specs.Scenes.{SymbolParts, no_symbol, symbol_at}
use Rattle.asm_late.specs.declared.scene.ProgramScene.{ProgramScene}
use Rattle.asm_late.specs.Scene.{setting_of, symbol_of, scene_of, scene_parts, scene_program}

found_in : (f : DefinitionParts → SymbolParts) (xs : List Definition) (n : ℕ) (d : Definition) → n < length xs
    → get_or (map f (map definition_parts xs)) n no_symbol ≡ f (definition_parts (get_or xs n d))
found_in f [] n d inside = absurd (omega arith)
found_in f (y ∷ ys) zero d inside = refl
found_in f (y ∷ ys) (suc n) d inside = found_in f ys n d (omega (arith, inside))

missing_in : (f : DefinitionParts → SymbolParts) (xs : List Definition) (n : ℕ) → slice_get xs n ≡ None → get_or (map f (map definition_parts xs)) n no_symbol ≡ no_symbol
missing_in f [] n is = refl
missing_in f (y ∷ ys) zero is = cc
missing_in f (y ∷ ys) (suc n) is = missing_in f ys n is

module _ (scene : ProgramScene) (n : ℕ) where
  pub missing_symbol : slice_get scene.program.now.made.symbols.items n ≡ None → symbol_at (scene_parts scene) n ≡ no_symbol
  unfolding scene_of
  missing_symbol is = missing_in (symbol_of (scene_program scene)) scene.program.now.made.symbols.items n is

  module _ (xs : List Definition) (d : Definition) (all : xs ≡ scene.program.now.made.symbols.items) (inside : true ≡ ltb n (length xs)) (here : d ≡ get_or xs n d) where
    in_items : (n < length scene.program.now.made.symbols.items) × (d ≡ get_or scene.program.now.made.symbols.items n d)
    in_items =
        let below : n < length xs = ltb-true n (length xs) (sym inside) in
        (rw all at below, rw all at here)

    found_symbol : symbol_at (scene_parts scene) n ≡ symbol_of (scene_program scene) (definition_parts d)
    unfolding scene_of
    found_symbol =
        found_in (symbol_of (scene_program scene)) scene.program.now.made.symbols.items n d in_items.0
        ∙ ap (λ (x : Definition). symbol_of (scene_program scene) (definition_parts x)) (sym in_items.1)

    pub own_place : (chunk offset : ℕ) → d.meaning ≡ Place chunk offset → d.early ≡ (symbol_at (scene_parts scene) n).own
    unfolding symbol_of
    own_place chunk offset is = rw (found_symbol, is) refl

    pub own_assigned : (statement : ℕ) → d.meaning ≡ Assigned statement → None ≡ (symbol_at (scene_parts scene) n).own
    unfolding symbol_of
    own_assigned statement is = rw (found_symbol, is) refl

    pub setting_place : (chunk offset : ℕ) → d.meaning ≡ Place chunk offset → no_symbol.setting ≡ (symbol_at (scene_parts scene) n).setting
    unfolding symbol_of
    setting_place chunk offset is = rw (found_symbol, is) refl

    pub setting_assigned : (statement : ℕ) → d.meaning ≡ Assigned statement → setting_of (scene_program scene) d.file statement ≡ (symbol_at (scene_parts scene) n).setting
    unfolding symbol_of
    setting_assigned statement is = rw (found_symbol, is) refl

    pub nodes_place : (chunk offset : ℕ) → d.meaning ≡ Place chunk offset → [] ≡ (symbol_at (scene_parts scene) n).nodes
    unfolding symbol_of
    nodes_place chunk offset is = rw (found_symbol, is) refl

    pub nodes_assigned : (statement : ℕ) → d.meaning ≡ Assigned statement → nodes_in (scene_program scene) d.file statement 0 ≡ (symbol_at (scene_parts scene) n).nodes
    unfolding symbol_of
    nodes_assigned statement is = rw (found_symbol, is) refl
