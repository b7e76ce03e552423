-- The bytes of the symbols so far, and of those that are left.
use Rattle.std.proofs.Common.{◌≡◌, ℕ, ◌+◌, ◌<◌, ◌≤◌, List, [], ◌∷◌, ◌++◌, length, drop, get_or, map, Option, None, refl, sym, ap, ◌∙◌, append_assoc, drop-cons, add-one}
use Rattle.std.specs.Prelude.{slice_index_or}
use Rattle.std.proofs.Math.ListN.{drop_of_length-le}
use Rattle.asm_values.specs.declared.values.Value.{Value}
use Rattle.asm_symbols.specs.declared.definitions.Definition.{Definition}
use Rattle.asm_symbols.specs.Definitions.{DefinitionParts, definition_parts}
use Rattle.asm_files.specs.Programs.{ProgramParts}
use Rattle.asm_chains.specs.Scenes.{SceneParts}
use Rattle.asm_late.specs.Lengths.{length_of, lengths_from}

module _ (program : ProgramParts) (scene : SceneParts) (values : List (Option Value)) (sizes : List (Option ℕ)) (symbols : List Definition) (lengths whole : List ℕ) (number : ℕ)
    (so_far : lengths ++ lengths_from program scene values sizes number (map definition_parts (drop number symbols)) ≡ whole) where
  pub length_next : (d symbol : Definition) (bytes : ℕ) → number < length symbols → symbol ≡ get_or symbols number d
      → bytes ≡ length_of program scene values (slice_index_or sizes number None) (definition_parts symbol)
      → (lengths ++ bytes ∷ []) ++ lengths_from program scene values sizes (number + 1) (map definition_parts (drop (number + 1) symbols)) ≡ whole
  unfolding lengths_from
  length_next d symbol bytes inside here is =
      let next : drop number symbols ≡ symbol ∷ drop (number + 1) symbols = rw (here, add-one) (drop-cons symbols number d inside) in
      append_assoc lengths (bytes ∷ []) (lengths_from program scene values sizes (number + 1) (map definition_parts (drop (number + 1) symbols)))
      ∙ rw (← is) at (rw next at so_far)

  pub lengths_end : length symbols ≤ number → lengths ≡ whole
  unfolding lengths_from
  lengths_end past =
      let none : drop number symbols ≡ [] = drop_of_length-le symbols past in
      rw (none, append_nil lengths) at so_far
    where
      append_nil : (xs : List ℕ) → xs ++ [] ≡ xs
      append_nil [] = refl
      append_nil (x ∷ xs) = ap (λ rest. x ∷ rest) (append_nil xs)
