-- What a listing's reader keeps of its labels, as the definition of labels has them.
use Rattle.std.specs.Prelude.{ℕ, List, Option, Some, None, bytes_eq}
use Rattle.std.specs.Borrow.{Bor}
use Rattle.std.specs.declared.hash.FoldHasher.{FoldHasher}
use Rattle.std.specs.declared.hash.BuildHasherDefault.{BuildHasherDefault}
use Rattle.std.specs.HashMap.{HashMap, get_by}
use Rattle.grammar.specs.declared.labels.LabelLine.{LabelLine}
use Rattle.grammar.specs.declared.labels.Labels.{Labels}
use Rattle.grammar.specs.Labels.{LabelParts}

-- what a map has at a name
abbrev pub named_in : HashMap (Bor (List ℕ)) LabelLine (BuildHasherDefault FoldHasher) → List ℕ
    → Option LabelLine
named_in labels name = get_by (λ key. bytes_eq name key.now) labels

-- the first of two lines, if there is one
abbrev pub first_line : Option LabelLine → Option LabelLine → Option LabelLine
first_line (Some line) later = Some line
first_line None later = later

unfoldable pub label_parts : Labels → LabelParts
label_parts labels =
    record { label = λ name. named_in labels.labels name; instructions = labels.instructions }
