use Rattle.std.proofs.Common.{◌∙◌, [], ◌∷◌, ◌++◌, map, ap, refl}
use Rattle.std.proofs.lemmas.List.{map-append}
use Rattle.asm_starts.specs.Starts.{note_parts}
use Rattle.asm_mapping.specs.Lines.{LineParts, line_parts}
use Rattle.asm_mapping.specs.Mapping.{hart_lines}
use Rattle.asm_mapping.proofs.LineLemmas.{left_seen, lines_more, lines_end, none_seen}
use Rattle.asm_mapping.proofs.mapping.push_harts.Goals as goal

pub loop-number-preserved : goal.loop-number-preserved
loop-number-preserved c =
    lines_more hart_lines c.loop-number.number _ _ _ _ _ _
    (left_seen note_parts c.args.harts.now c.loop-number.number _ _ c.loop-number-test.true refl) c.loop-number.invariant
    (ap (map line_parts) c.in_ok-push.ensures.items ∙ map-append line_parts _ _
    ∙ ap (λ (line : LineParts). map line_parts c.loop-number.lines.items ++ line ∷ []) c.hart_line.ensures)

pub returns : goal.returns
returns c =
    lines_end hart_lines _ _ _ _ (none_seen note_parts c.args.harts.now c.loop-number.number c.loop-number-test.false)
    c.loop-number.invariant
