-- Names for `unfolding(..)` that open what their own line names.
use Rattle.std.specs.Prelude.{ℕ, List, Option}
use Rattle.serde_json.specs.Data.{Data}
use Rattle.cheri_model.specs.declared.operation.Op.{Op}
use Rattle.cheri_model.specs.steps.Hart.{HartState}
use Rattle.cheri_model.specs.runs.Image.{ImageParts}
use Rattle.origins.specs.Origins.{Origins}
use Rattle.explanations.specs.declared.selection.Selection.{Selection}
use Rattle.explanations.specs.FactData.{named_data}
use Rattle.json.specs.Print.{escape_byte}
use Rattle.explained_page.specs.Look.{line_at, next_line, next_data, core_look, look_head, look_end}
use Rattle.explained_page.specs.Page.{page_head, page_state, page_listing, page_end}
use Rattle.explained_page.specs.Page.{explanation_part, page_of}
use Rattle.explained_page.specs.ScriptText.{script_text}
use Rattle.explained_page.specs.State.{hart_data, state_data}

-- the fixed parts of a page
unfoldable pub constants : List ℕ
unfolding page_head page_state page_listing page_end
constants = page_head

unfoldable pub script : List ℕ → List ℕ
unfolding script_text escape_byte
script text = script_text text

-- the state, and each value's origin
unfoldable pub state : Origins → ℕ → HartState → Data
unfolding named_data hart_data state_data
state origins number hart = hart_data origins number hart

unfoldable pub page : ImageParts → List ℕ → List ℕ → Selection → List Op → List ℕ
unfolding explanation_part page_of
page image listing lines selection order = page_of image listing lines selection order

-- a position, and the lines of the harts' next instructions
unfoldable pub look : List ℕ → ℕ → Option ℕ
unfolding line_at next_line next_data look_head look_end core_look
look lines addr = line_at lines addr
