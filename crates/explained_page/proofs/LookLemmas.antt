-- A position in JSON: the lines of next instructions, events of which none is selected, and the text in pieces.
use Rattle.std.proofs.Common.{◌≡◌, ℕ, ◌+◌, ◌<◌, ◌≤◌, Bool, true, false, List, [], ◌∷◌, ◌++◌, Option, Some, None, length, map, take, min, get_or, codes, decimal, refl, ap, sym, ◌∙◌, append_assoc, arith}
use Rattle.std.specs.Prelude.{◌&&◌, nat_le}
use Rattle.std.proofs.lemmas.Bool.Decides.{nat_tests}
use Rattle.std.proofs.lemmas.List.{map-append, map_more, take_all}
use Rattle.serde_json.proofs.OnLiterals.{serde_json_on_literals}
use Rattle.serde_json.specs.Data.{Data}
use Rattle.serde_json.specs.View.{items_of}
use Rattle.serde_json.specs.Written.{compact_text, has_float, items_have_float}
use Rattle.cheri_model.specs.declared.operation.Op.{Op}
use Rattle.cheri_model.specs.declared.operation.Event.{Event}
use Rattle.cheri_model.specs.steps.Hart.{HartState}
use Rattle.cheri_model.specs.runs.Image.{ImageParts}
use Rattle.cheri_model.specs.runs.Replay.{operations_of, replayed_state}
use Rattle.cheri_model.proofs.Runs.Replays.{length-operations_of}
use Rattle.origins.specs.Origins.{replayed_origins}
use Rattle.explanations.specs.declared.selection.Selection.{Selection}
use Rattle.explanations.specs.Explanation.{Explained, explained_events, is_shown, shown_from}
use Rattle.explanations.specs.InstructionLines.{unmapped}
use Rattle.explanations.specs.JsonText.{events_from}
use Rattle.explained_page.specs.State.{state_data}
use Rattle.explained_page.specs.Look.{next_line, line_or_null, next_data, look_data, look_head, look_end}

-- ---- next instructions

-- one hart more
pub next_more : {V : Type 0} (view : V → Data) (next : HartState → Data) (harts : List HartState) (number : ℕ) (d hart : HartState)
    (items pushed : List V) (v : V) → number < length harts → hart ≡ get_or harts number d → view v ≡ next hart
    → pushed ≡ items ++ v ∷ [] → map view items ≡ map next (take number harts) → map view pushed ≡ map next (take (number + 1) harts)
next_more view next harts number d hart items pushed v room here is more so_far =
    rw (more, map-append, is, here, so_far) (sym (map_more next harts number d room))

-- no hart is left
pub next_end : {V : Type 0} (view : V → Data) (next : HartState → Data) (harts : List HartState) (number : ℕ) (items : List V)
    → length harts ≤ number → map view items ≡ map next (take number harts) → map view items ≡ map next harts
next_end view next harts number items ended so_far = so_far ∙ ap (map next) (take_all number harts ended)

or_null : (line : Option ℕ) → has_float (line_or_null line) ≡ false
or_null None = refl
or_null (Some line) = refl

lines_no_float : (lines : List ℕ) (harts : List HartState)
    → items_have_float (items_of (map (λ (hart : HartState). line_or_null (next_line lines hart)) harts)) ≡ false
lines_no_float lines [] = refl
lines_no_float lines (hart ∷ rest) = rw (or_null (next_line lines hart)) (lines_no_float lines rest)

pub next_no_float : (lines : List ℕ) (harts : List HartState) → has_float (next_data lines harts) ≡ false
unfolding next_data
next_no_float lines harts = lines_no_float lines harts

-- ---- events of which none is selected

past : (first last number : ℕ) → last < first → nat_le first number ≡ true → nat_le number last ≡ false
past first last number less is = grind (arith, nat_tests)

by_first : (first last number : ℕ) (passed starts : Bool) → last < first → nat_le first number ≡ starts
    → (starts && nat_le number last && passed) ≡ false
by_first first last number passed false less is = refl
by_first first last number passed true less is = rw (past first last number less is) refl

none_shown : (selection : Selection) (number : ℕ) (events : List Explained) → selection.last < selection.first
    → shown_from selection number events ≡ []
unfolding shown_from is_shown
none_shown selection number [] less = refl
none_shown selection number (explained ∷ rest) less =
    rw (by_first selection.first selection.last number _ (nat_le selection.first number) less refl)
    (none_shown selection (number + 1) rest less)

pub none_from : (lines : List ℕ) (selection : Selection) (number : ℕ) (events : List Explained) → selection.last < selection.first
    → events_from (unmapped lines) selection false number events ≡ 93 ∷ []
none_from lines selection number events less = rw (none_shown selection number events less) refl

-- ---- the whole

regrouped : (a b c d e at events next state : List ℕ)
    → a ++ (at ++ (b ++ (events ++ (c ++ (next ++ (d ++ (state ++ e)))))))
    ≡ (a ++ (at ++ b)) ++ (events ++ (c ++ (next ++ (d ++ (state ++ e)))))
regrouped a b c d e at events next state = simp append_assoc

look_parts : (image : ImageParts) (lines : List ℕ) (at : ℕ) (selection : Selection) (order : List Op)
    → compact_text (look_data image lines at selection order)
    ≡ look_head (min at (length order)) ++ (events_from (unmapped lines) selection false 0 (explained_events image order)
    ++ look_end lines (replayed_origins image (take at order)) (replayed_state image (take at order)))
unfolding look_data look_head look_end serde_json_on_literals
look_parts image lines at selection order =
    regrouped (codes "{\"at\":") (codes ",\"events\":[") (codes ",\"next\":") (codes ",\"state\":") (codes "}")
    (decimal (min at (length order))) (events_from (unmapped lines) selection false 0 (explained_events image order))
    (compact_text (next_data lines (replayed_state image (take at order)).harts))
    (compact_text (state_data (replayed_origins image (take at order)) (replayed_state image (take at order))))

-- the same of what a core took, as a view shows it
pub core_parts : (image : ImageParts) (lines : List ℕ) (at taken : ℕ) (selection : Selection) (trace entries : List Event)
    → entries ≡ trace → taken ≡ min at (length entries)
    → compact_text (look_data image lines at selection (operations_of trace))
    ≡ look_head taken ++ (events_from (unmapped lines) selection false 0 (explained_events image (operations_of trace))
    ++ look_end lines (replayed_origins image (take at (operations_of trace))) (replayed_state image (take at (operations_of trace))))
core_parts image lines at taken selection trace entries same is =
    let count : min at (length (operations_of trace)) ≡ taken =
    ap (min at) (length-operations_of trace ∙ ap length (sym same)) ∙ sym is in
    look_parts image lines at selection (operations_of trace)
    ∙ ap (λ n. look_head n ++ (events_from (unmapped lines) selection false 0 (explained_events image (operations_of trace))
    ++ look_end lines (replayed_origins image (take at (operations_of trace))) (replayed_state image (take at (operations_of trace))))) count
