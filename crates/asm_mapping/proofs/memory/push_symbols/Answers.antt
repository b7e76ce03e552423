use Rattle.std.proofs.Common.{refl}
use Rattle.asm_symbols.specs.Definitions.{definition_parts}
use Rattle.asm_places.specs.Capabilities.{objects_parts}
use Rattle.asm_mapping.specs.Memory.{symbol_lines}
use Rattle.asm_mapping.proofs.LineLemmas.{left_seen, lines_more, lines_end, none_seen}
use Rattle.asm_mapping.proofs.memory.push_symbols.Goals as goal

pub loop-number-preserved : goal.loop-number-preserved
loop-number-preserved c =
    lines_more (symbol_lines (objects_parts c.args.objects)) c.loop-number.number _ _ _ _ _ _
    (left_seen definition_parts c.args.symbols.now c.loop-number.number _ _ c.loop-number-test.true refl) c.loop-number.invariant
    c.in_ok-push_symbol.ensures

pub returns : goal.returns
returns c =
    lines_end (symbol_lines (objects_parts c.args.objects)) _ _ _ _
    (none_seen definition_parts c.args.symbols.now c.loop-number.number c.loop-number-test.false) c.loop-number.invariant
