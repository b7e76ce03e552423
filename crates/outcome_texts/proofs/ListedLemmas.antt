-- What is said of outcomes is its parts.
use Rattle.std.proofs.Common.{◌≡◌, ℕ, Bool, true, false, List, [], ◌∷◌, ◌++◌, codes, decimal, length, map, refl, sym, ap, ◌∙◌, append_assoc, append-nil}
use Rattle.std.specs.Prelude.{nat_lt, string_bytes}
use Rattle.serde_json.proofs.OnLiterals.{serde_json_on_literals}
use Rattle.serde_json.specs.Data.{Data, string, boolean, array, object, no_members, member}
use Rattle.serde_json.specs.View.{items_of}
use Rattle.serde_json.specs.Written.{comma_if, compact_text}
use Rattle.cheri_model.specs.runs.Image.{ImageParts}
use Rattle.cheri_model.specs.runs.Machine.{MachineState}
use Rattle.outcome_texts.specs.EndlessTexts.{endless_data}
use Rattle.outcome_texts.specs.OutcomeTexts.{head_lines, listed, listed_text, listed_data, kept_lines, kept_data, outcome_line, outcome_lines, outcome_data, shown, shown_text, shown_data, row_data}
use Rattle.outcome_texts.specs.OutcomeParts.{complete_text, json_head, kept_part, listed_parts, listed_whole, outcome_part, outcome_before, outcome_after, shown_whole, shown_lines, shown_json}
use Rattle.found_texts.specs.ReducedTexts.{reduced_data}
use Rattle.outcome_texts.specs.ReducedTexts.{reduced_row_data, reduced_shown, reduced_shown_data, reduced_shown_text}
use Rattle.outcome_texts.specs.declared.told.Outcome.{Outcome}
use Rattle.outcome_texts.specs.declared.told.ShownRow.{ShownRow}
use Rattle.report_lines.specs.EventData.{image_data}
use Rattle.report_lines.specs.JsonText.{item_text}
use Rattle.report_lines.specs.Texts.{numbered, line}
use Rattle.report_lines.specs.ValueData.{count}
use Rattle.report_lines.proofs.JsonLists.{list_text}
use Rattle.reports.specs.Json.{harts_data, memory_data}
use Rattle.shown_states.specs.StateTexts.{shown_state, state_members}
use Rattle.shown_states.specs.declared.form.Format.{Format}
use Rattle.shown_states.specs.declared.form.Format.TheVariants.{Text, Json}
use Rattle.state_loops.specs.declared.endless.Endless.{Endless}
use Rattle.states.specs.Kept.{KeptParts}
use Rattle.states.specs.Kept as kept_states

-- ---- an outcome

outcome_text : (harts memory : Data) (order : List ℕ)
    → compact_text (object (member (codes "harts") harts (member (codes "mem") memory (member (codes "order") (string order) no_members))))
    ≡ codes "{\"harts\":" ++ (compact_text harts ++ (codes ",\"mem\":" ++ (compact_text memory ++ (codes ",\"order\":" ++ (compact_text (string order) ++ codes "}")))))
unfolding serde_json_on_literals
outcome_text harts memory order = refl

regrouped : (comma begin head harts mid memory last order close : List ℕ)
    → comma ++ ((begin ++ head) ++ (harts ++ (mid ++ (memory ++ (last ++ (order ++ close))))))
    ≡ (comma ++ begin) ++ (((head ++ harts) ++ (mid ++ memory)) ++ (last ++ (order ++ close)))
regrouped comma begin head harts mid memory last order close = simp append_assoc

-- an outcome is what stands before its state, the state and what stands after it
pub outcome_whole : (format : Format) (state : MachineState) (number : ℕ) (outcome : Outcome)
    → outcome_part format state number outcome
    ≡ outcome_before format number (string_bytes outcome.order) ++ (shown_state format state ++ outcome_after format (string_bytes outcome.order))
unfolding outcome_lines outcome_data item_text state_members
outcome_whole Text state number outcome =
    ap (λ (l : List ℕ). outcome_line number (string_bytes outcome.order) ++ l) (sym (append-nil _))
outcome_whole Json state number outcome =
    ap (λ (l : List ℕ). comma_if (nat_lt 0 number) ++ l) (outcome_text (harts_data state.harts) (memory_data state.memory) (string_bytes outcome.order))
    ∙ regrouped (comma_if (nat_lt 0 number)) (codes "{") (codes "\"harts\":") (compact_text (harts_data state.harts)) (codes ",\"mem\":")
    (compact_text (memory_data state.memory)) (codes ",\"order\":") (compact_text (string (string_bytes outcome.order))) (codes "}")

-- ---- outcomes as states

listed_object : (complete : Bool) (e i a : Data) (n : ℕ)
    → compact_text (object (member (codes "complete") (boolean complete) (member (codes "endless") e (member (codes "explore") (count 1)
    (member (codes "image") i (member (codes "outcomes") a (member (codes "states") (count n) no_members)))))))
    ≡ codes "{\"complete\":" ++ (complete_text complete ++ (codes ",\"endless\":" ++ (compact_text e ++ (codes ",\"explore\":" ++ (decimal 1
    ++ (codes ",\"image\":" ++ (compact_text i ++ (codes ",\"outcomes\":" ++ (compact_text a ++ (codes ",\"states\":" ++ (decimal n ++ codes "}")))))))))))
unfolding serde_json_on_literals
listed_object true e i a n = refl
listed_object false e i a n = refl

in_parts : (a complete b e c one d i f items g n : List ℕ)
    → (a ++ (complete ++ (b ++ (e ++ (c ++ (one ++ (d ++ (i ++ (f ++ ((91 ∷ (items ++ 93 ∷ [])) ++ (g ++ (n ++ codes "}")))))))))))) ++ 10 ∷ []
    ≡ (((a ++ (complete ++ (b ++ (e ++ (c ++ (one ++ (d ++ i))))))) ++ (f ++ 91 ∷ [])) ++ items) ++ ((93 ∷ g) ++ (n ++ codes "}\n"))
in_parts a complete b e c one d i f items g n = simp append_assoc

pub listed_is : (format : Format) (kept : KeptParts) (endless : Endless) (outcomes : List Outcome)
    → listed format kept endless outcomes
    ≡ listed_whole format kept.complete kept.image (kept_states.count kept) endless kept outcomes
unfolding listed_text listed_data listed_whole listed_parts kept_part kept_lines kept_data json_head item_text
listed_is Text kept endless outcomes =
    sym (append_assoc (head_lines kept.complete kept.image (kept_states.count kept) endless (length outcomes))
    (numbered (kept_lines kept) 0 outcomes) (line (codes "end")))
listed_is Json kept endless outcomes =
    ap (λ (l : List ℕ). l ++ 10 ∷ []) (listed_object kept.complete (endless_data endless) (image_data kept.image)
    (array (items_of (map (kept_data kept) outcomes))) (kept_states.count kept)
    ∙ ap (λ (l : List ℕ). codes "{\"complete\":" ++ (complete_text kept.complete ++ (codes ",\"endless\":" ++ (compact_text (endless_data endless)
    ++ (codes ",\"explore\":" ++ (decimal 1 ++ (codes ",\"image\":" ++ (compact_text (image_data kept.image) ++ (codes ",\"outcomes\":" ++ (l
    ++ (codes ",\"states\":" ++ (decimal (kept_states.count kept) ++ codes "}")))))))))))) (list_text (kept_data kept) outcomes))
    ∙ in_parts (codes "{\"complete\":") (complete_text kept.complete) (codes ",\"endless\":") (compact_text (endless_data endless))
    (codes ",\"explore\":") (decimal 1) (codes ",\"image\":") (compact_text (image_data kept.image)) (codes ",\"outcomes\":")
    (numbered (item_text (kept_data kept)) 0 outcomes) (codes ",\"states\":") (decimal (kept_states.count kept))

-- ---- outcomes as rows

shown_object : (complete : Bool) (e i a : Data) (n : ℕ)
    → compact_text (object (member (codes "complete") (boolean complete) (member (codes "endless") e (member (codes "explore") (count 1)
    (member (codes "image") i (member (codes "shown") a (member (codes "states") (count n) no_members)))))))
    ≡ codes "{\"complete\":" ++ (complete_text complete ++ (codes ",\"endless\":" ++ (compact_text e ++ (codes ",\"explore\":" ++ (decimal 1
    ++ (codes ",\"image\":" ++ (compact_text i ++ (codes ",\"shown\":" ++ (compact_text a ++ (codes ",\"states\":" ++ (decimal n ++ codes "}")))))))))))
unfolding serde_json_on_literals
shown_object true e i a n = refl
shown_object false e i a n = refl

rows_in_parts : (a complete b e c one d i f items g n : List ℕ)
    → (a ++ (complete ++ (b ++ (e ++ (c ++ (one ++ (d ++ (i ++ (f ++ ((91 ∷ (items ++ 93 ∷ [])) ++ (g ++ (n ++ codes "}")))))))))))) ++ 10 ∷ []
    ≡ (a ++ (complete ++ (b ++ (e ++ (c ++ (one ++ (d ++ i))))))) ++ ((f ++ 91 ∷ []) ++ (items ++ ((93 ∷ g) ++ (n ++ codes "}\n"))))
rows_in_parts a complete b e c one d i f items g n = simp append_assoc

pub shown_is : (format : Format) (names : List (List ℕ)) (kept : KeptParts) (endless : Endless) (outcomes : ℕ) (rows : List ShownRow)
    → shown format names kept endless outcomes rows
    ≡ shown_whole format false kept.complete kept.image (kept_states.count kept) endless outcomes names rows
unfolding shown_text shown_data shown_lines shown_json json_head
shown_is Text names kept endless outcomes rows = refl
shown_is Json names kept endless outcomes rows =
    ap (λ (l : List ℕ). l ++ 10 ∷ []) (shown_object kept.complete (endless_data endless) (image_data kept.image)
    (array (items_of (map (row_data names) rows))) (kept_states.count kept)
    ∙ ap (λ (l : List ℕ). codes "{\"complete\":" ++ (complete_text kept.complete ++ (codes ",\"endless\":" ++ (compact_text (endless_data endless)
    ++ (codes ",\"explore\":" ++ (decimal 1 ++ (codes ",\"image\":" ++ (compact_text (image_data kept.image) ++ (codes ",\"shown\":" ++ (l
    ++ (codes ",\"states\":" ++ (decimal (kept_states.count kept) ++ codes "}")))))))))))) (list_text (row_data names) rows))
    ∙ rows_in_parts (codes "{\"complete\":") (complete_text kept.complete) (codes ",\"endless\":") (compact_text (endless_data endless))
    (codes ",\"explore\":") (decimal 1) (codes ",\"image\":") (compact_text (image_data kept.image)) (codes ",\"shown\":")
    (numbered (item_text (row_data names)) 0 rows) (codes ",\"states\":") (decimal (kept_states.count kept))

-- ---- the same where registers were forgotten

reduced_object : (complete : Bool) (e i a : Data) (n : ℕ)
    → compact_text (object (member (codes "complete") (boolean complete) (member (codes "endless") e (member (codes "explore") (count 2)
    (member (codes "image") i (member (codes "reduced") reduced_data (member (codes "shown") a (member (codes "states") (count n) no_members))))))))
    ≡ codes "{\"complete\":" ++ (complete_text complete ++ (codes ",\"endless\":" ++ (compact_text e ++ (codes ",\"explore\":" ++ (decimal 2
    ++ (codes ",\"image\":" ++ (compact_text i ++ (codes ",\"reduced\":[\"registers\"],\"shown\":" ++ (compact_text a
    ++ (codes ",\"states\":" ++ (decimal n ++ codes "}")))))))))))
unfolding serde_json_on_literals
reduced_object true e i a n = refl
reduced_object false e i a n = refl

pub reduced_is : (format : Format) (names : List (List ℕ)) (complete : Bool) (image : ImageParts) (states : ℕ) (endless : Endless)
    (outcomes : ℕ) (rows : List ShownRow)
    → reduced_shown format names complete image states endless rows
    ≡ shown_whole format true complete image states endless outcomes names rows
unfolding reduced_shown_text reduced_shown_data shown_lines shown_json json_head
reduced_is Text names complete image states endless outcomes rows = refl
reduced_is Json names complete image states endless outcomes rows =
    ap (λ (l : List ℕ). l ++ 10 ∷ []) (reduced_object complete (endless_data endless) (image_data image)
    (array (items_of (map (reduced_row_data names) rows))) states
    ∙ ap (λ (l : List ℕ). codes "{\"complete\":" ++ (complete_text complete ++ (codes ",\"endless\":" ++ (compact_text (endless_data endless)
    ++ (codes ",\"explore\":" ++ (decimal 2 ++ (codes ",\"image\":" ++ (compact_text (image_data image)
    ++ (codes ",\"reduced\":[\"registers\"],\"shown\":" ++ (l ++ (codes ",\"states\":" ++ (decimal states ++ codes "}"))))))))))))
    (list_text (reduced_row_data names) rows))
    ∙ rows_in_parts (codes "{\"complete\":") (complete_text complete) (codes ",\"endless\":") (compact_text (endless_data endless))
    (codes ",\"explore\":") (decimal 2) (codes ",\"image\":") (compact_text (image_data image))
    (codes ",\"reduced\":[\"registers\"],\"shown\":") (numbered (item_text (reduced_row_data names)) 0 rows) (codes ",\"states\":")
    (decimal states)
