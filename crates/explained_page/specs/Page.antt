-- The page of an explained run.
use Rattle.std.specs.Prelude.{ℕ, ◌+◌, ◌-◌, nat_lt, Bool, List, length, min, take}
use Rattle.serde_json.specs.Written.{compact_text}
use Rattle.cheri_model.specs.declared.operation.Op.{Op}
use Rattle.cheri_model.specs.runs.Image.{ImageParts}
use Rattle.cheri_model.specs.runs.Replay.{replayed_state}
use Rattle.report_lines.specs.Texts.{◌+++◌}
use Rattle.origins.specs.Origins.{replayed_origins}
use Rattle.explanations.specs.declared.selection.Selection.{Selection}
use Rattle.explanations.specs.InstructionLines.{unmapped}
use Rattle.explanations.specs.Explanation.{explanation_json}
use Rattle.explained_page.specs.State.{state_data}
use Rattle.explained_page.specs.ScriptText.{script_text}
use Rattle.explained_page.specs.declared.page.TheConstants.{PAGE_HEAD, PAGE_STATE}
use Rattle.explained_page.specs.declared.page.TheConstants.{PAGE_LISTING, PAGE_END}
use Rattle.explained_page.specs.declared.pages.TheConstants.{MOST_EVENTS}

-- what goes before each text of a page, and after the last, by names that hide it
unfoldable pub page_head : List ℕ
page_head = PAGE_HEAD.now

unfoldable pub page_state : List ℕ
page_state = PAGE_STATE.now

unfoldable pub page_listing : List ℕ
page_listing = PAGE_LISTING.now

unfoldable pub page_end : List ℕ
page_end = PAGE_END.now

-- the state after the first operations of an order, this many
abbrev pub state_text : ImageParts → ℕ → List Op → List ℕ
state_text image count order =
    compact_text (state_data (replayed_origins image (take count order))
    (replayed_state image (take count order)))

-- its three parts: each has a text, after what goes before it
unfoldable pub explanation_part : ImageParts → List ℕ → Selection → List Op → List ℕ
explanation_part image lines selection order =
    page_head +++ explanation_json image (unmapped lines) selection order

abbrev pub state_part : ImageParts → ℕ → List Op → List ℕ
state_part image count order = page_state +++ state_text image count order

abbrev pub listing_part : List ℕ → List ℕ
listing_part listing = page_listing +++ script_text listing +++ page_end

-- The page of the run of an order, all of whose operations are taken: the explanation of the
-- selected events, the state before the first of them, and the listing.
unfoldable pub page_of : ImageParts → List ℕ → List ℕ → Selection → List Op → List ℕ
page_of image listing lines selection order =
    explanation_part image lines selection order +++ state_part image selection.first order
    +++ listing_part listing

-- how many events of a run have a number in the range
abbrev pub count_in : ℕ → ℕ → ℕ → ℕ
count_in first last events = min events (last + 1) - first

abbrev pub is_too_long : ℕ → ℕ → ℕ → Bool
is_too_long first last events = nat_lt MOST_EVENTS (count_in first last events)
