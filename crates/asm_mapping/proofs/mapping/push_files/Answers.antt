use Rattle.std.proofs.Common.{◌+◌, ◌∙◌, map, ap, refl}
use Rattle.std.proofs.lemmas.List.{map-append}
use Rattle.asm_mapping.specs.Lines.{line_parts, text_now}
use Rattle.asm_mapping.specs.Mapping.{file_lines}
use Rattle.asm_mapping.proofs.LineLemmas.{left_seen, lines_more, lines_end, none_seen}
use Rattle.asm_mapping.proofs.mapping.push_files.Goals as goal

pub loop-place-preserved : goal.loop-place-preserved
loop-place-preserved c =
    lines_more file_lines (c.loop-place.place + 1) _ _ _ _ _ _ (left_seen text_now c.args.names.now c.loop-place.place _ _ c.loop-place-test.true refl)
    c.loop-place.invariant (ap (map line_parts) c.in_ok-push.ensures.items ∙ map-append line_parts _ _)

pub returns : goal.returns
returns c =
    lines_end file_lines _ _ _ _ (none_seen text_now c.args.names.now c.loop-place.place c.loop-place-test.false) c.loop-place.invariant
