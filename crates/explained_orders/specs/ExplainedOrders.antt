-- What is said of orders after an answer that tells of them.
use Rattle.std.specs.Prelude.{ℕ, nat_lt, if◌then◌else◌, List, [], ◌∷◌, ◌++◌, length, map, codes}
use Rattle.std.specs.Prelude.{Option, option_map}
use Rattle.asm_map_reader.specs.Sources.{SourceParts, source_text}
use Rattle.cheri_model.specs.declared.operation.Op.{Op}
use Rattle.cheri_model.specs.runs.Image.{ImageParts}
use Rattle.cores.specs.Runs.{run_of}
use Rattle.cores.specs.declared.cores.TheConstants.{GREATEST_TRACE_LIMIT}
use Rattle.explanations.specs.ExplainedRuns.{mapped}
use Rattle.explanations.specs.declared.runs.Format.TheVariants.{Text}
use Rattle.explanations.specs.declared.selection.Filter.TheVariants.{All}
use Rattle.explanations.specs.declared.selection.Selection.{Selection}
use Rattle.order_texts.specs.OrderTexts.{order_text}
use Rattle.report_lines.specs.Texts.{◌+++◌, line}

-- an empty line, and the order
unfoldable pub order_head : List Op → List ℕ
order_head order = codes "\norder " +++ order_text order +++ codes "\n"

-- each event
abbrev pub each_event : Selection
each_event = record { first = 0; last = GREATEST_TRACE_LIMIT; filter = All }

-- what a map says that instructions come from, if there is one
abbrev pub Sources : Type 0
Sources = Option (List SourceParts)

-- what `cheri_explain` prints of the listing that has this text, this map and this image, and of an
-- order
abbrev pub run_explained : List ℕ → Sources → ImageParts → List Op → List ℕ
run_explained listing sources image order =
    mapped Text (option_map (map source_text) sources) listing each_event
    (run_of image order GREATEST_TRACE_LIMIT)

-- of an order that a run can have
unfoldable pub explanation_of : List ℕ → Sources → ImageParts → List Op → List ℕ
explanation_of listing sources image order =
    if nat_lt GREATEST_TRACE_LIMIT (length order) then line (codes "order too long to explain")
    else run_explained listing sources image order

abbrev pub explained_order : List ℕ → Sources → ImageParts → List Op → List ℕ
explained_order listing sources image order =
    order_head order +++ explanation_of listing sources image order

-- of all of them, one after another
unfoldable pub explained_orders : List ℕ → Sources → ImageParts → List (List Op) → List ℕ
explained_orders listing sources image [] = []
explained_orders listing sources image (order ∷ orders) =
    explained_order listing sources image order ++ explained_orders listing sources image orders
