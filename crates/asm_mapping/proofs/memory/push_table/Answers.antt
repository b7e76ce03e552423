use Rattle.std.proofs.Common.{◌+◌, ◌*◌, ◌∙◌, ℕ, List, [], ◌∷◌, ◌++◌, map, ap, refl}
use Rattle.std.proofs.lemmas.List.{map-append}
use Rattle.cheri_model.specs.declared.memory.TheConstants.{RAM_BASE}
use Rattle.asm_symbols.specs.Definitions.{definition_parts}
use Rattle.asm_mapping.specs.Lines as lines
use Rattle.asm_mapping.specs.Lines.{line_parts}
use Rattle.asm_mapping.specs.Memory.{table_lines}
use Rattle.asm_mapping.proofs.LineLemmas.{left_items, lines_more, lines_end, none_left}
use Rattle.asm_mapping.proofs.memory.push_table.Goals as goal

pub loop-entry-preserved : goal.loop-entry-preserved
loop-entry-preserved c =
    lines_more (table_lines (map definition_parts c.args.symbols.now)) c.loop-entry.entry _ _ _ _ _ _
    (left_items c.args.table.now c.loop-entry.entry _ _ c.loop-entry-test.true refl) c.loop-entry.invariant
    (ap (map line_parts) c.in_ok-push.ensures.items ∙ map-append line_parts _ _
    ∙ ap (λ (name : List ℕ). map line_parts c.loop-entry.lines.items ++ lines.entry (RAM_BASE + 16 * c.loop-entry.entry) name ∷ [])
    c.name_of.ensures)

pub returns : goal.returns
returns c =
    lines_end (table_lines (map definition_parts c.args.symbols.now)) _ _ _ _
    (none_left c.args.table.now c.loop-entry.entry c.loop-entry-test.false) c.loop-entry.invariant
