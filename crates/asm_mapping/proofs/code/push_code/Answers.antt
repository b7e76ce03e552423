use Rattle.std.proofs.Common.{◌≡◌, ◌<◌, ◌∙◌, ℕ, List, [], ◌∷◌, ◌++◌, None, map, length, get_or, ap, refl, arith}
use Rattle.std.proofs.lemmas.List.{map-append, get_or_read}
use Rattle.std.specs.Prelude.{Option}
use Rattle.asm_symbols.specs.Definitions.{DefinitionParts, definition_parts}
use Rattle.asm_places.specs.Places.{places_parts}
use Rattle.asm_instructions.specs.declared.origin.Origin.{Origin}
use Rattle.asm_labels.specs.declared.before.LabelBefore.{LabelBefore}
use Rattle.asm_labels.specs.Before.{label_before}
use Rattle.asm_mapping.specs.Lines.{LineParts, line_parts}
use Rattle.asm_mapping.specs.Code.{code_line, code_lines}
use Rattle.asm_mapping.proofs.LineLemmas.{left_items, lines_more, lines_end, none_left}
use Rattle.asm_mapping.proofs.code.push_code.Goals as goal

-- the line of an instruction, by the label that is known to be before it
line_here : (symbols : List DefinitionParts) (number : ℕ) (origin : Origin) (line : LineParts) (before known : Option LabelBefore)
    → line ≡ code_line symbols number before origin → before ≡ known → line ≡ code_line symbols number known origin
line_here symbols number origin line before known is same = is ∙ ap (λ (b : Option LabelBefore). code_line symbols number b origin) same

pub loop-number-preserved : goal.loop-number-preserved
loop-number-preserved c =
    let places = places_parts c.args.places in
    let symbols = map definition_parts c.args.symbols.now in
    let number = c.loop-number.number in
    let labels = c.in_ok-labels.labels.items in
    let inside : number < length labels = omega (arith, c.in_ok-labels.ensures.count) in
    let before : c.index-before.result.now ≡ label_before places symbols number =
    get_or_read labels number c.index-before.result.now inside c.index-before.ensures None
    ∙ c.in_ok-labels.ensures.labels number c.loop-number-test.true in
    lines_more (code_lines places symbols) number _ _ _ _ _ _ (left_items c.args.origins.now number _ _ c.loop-number-test.true refl)
    c.loop-number.invariant
    (ap (map line_parts) c.in_ok-push.ensures.items ∙ map-append line_parts _ _
    ∙ ap (λ (line : LineParts). map line_parts c.loop-number.lines.items ++ line ∷ [])
    (line_here symbols number (get_or c.args.origins.now number _) _ _ _ c.code_line.ensures before))

pub returns : goal.returns
returns c =
    lines_end (code_lines (places_parts c.args.places) (map definition_parts c.args.symbols.now)) _ _ _ _
    (none_left c.args.origins.now c.loop-number.number c.loop-number-test.false) c.loop-number.invariant
