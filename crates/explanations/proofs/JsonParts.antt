-- An explanation in JSON in its pieces.
use Rattle.std.proofs.Common.{◌≡◌, ℕ, suc, ◌+◌, ◌<◌, ◌≤◌, Bool, true, false, ◌||◌, cond, List, [], ◌∷◌, ◌++◌, Option, codes, decimal, length, drop, get_or, refl, ap, sym, ◌∙◌, append_assoc, drop-cons, add-one}
use Rattle.std.proofs.Math.ListN.{drop_of_length-le}
use Rattle.serde_json.proofs.OnLiterals.{serde_json_on_literals}
use Rattle.serde_json.specs.Written.{comma_if, compact_text, items_text}
use Rattle.cheri_model.specs.declared.operation.Op.{Op}
use Rattle.cheri_model.specs.runs.Image.{ImageParts}
use Rattle.report_lines.specs.EventData.{image_data}
use Rattle.sinks.specs.Sinks.{TakesAllBut, TakesPrefix}
use Rattle.sinks.proofs.SinkLemmas.{takes_then, stops_then}
use Rattle.explanations.specs.declared.selection.Selection.{Selection}
use Rattle.explanations.specs.InstructionLines.{LineParts}
use Rattle.explanations.specs.Explanation.{Explained, explained_events, is_shown, shown_from, event_data, events_data, explanation_data, explanation_json}
use Rattle.explanations.specs.JsonText.{json_head, shown_item, events_from, json_end}

or_true : (b : Bool) → (b || true) ≡ true
or_true true = refl
or_true false = refl

or_false : (b : Bool) → (b || false) ≡ b
or_false true = refl
or_false false = refl

-- one event more, by whether it is shown
by_shown : (lines : LineParts) (shown later : Bool) (item : ℕ × Explained) (rest : List (ℕ × Explained))
    → items_text later (events_data lines (cond shown (item ∷ rest) rest))
    ≡ cond shown (comma_if later ++ compact_text (event_data lines item.0 item.1)) [] ++ items_text (later || shown) (events_data lines rest)
by_shown lines true later item rest =
    rw (or_true later) (sym (append_assoc (comma_if later) (compact_text (event_data lines item.0 item.1)) (items_text true (events_data lines rest))))
by_shown lines false later item rest = rw (or_false later) refl

one_more : (lines : LineParts) (selection : Selection) (later : Bool) (number : ℕ) (facts : Explained) (rest : List Explained)
    → events_from lines selection later number (facts ∷ rest)
    ≡ shown_item lines selection later number facts ++ events_from lines selection (later || is_shown selection number facts.1) (number + 1) rest
unfolding shown_from shown_item
one_more lines selection later number facts rest =
    by_shown lines (is_shown selection number facts.1) later (number, facts) (shown_from selection (number + 1) rest)

module _ (lines : LineParts) (selection : Selection) (all : List Explained) (number : ℕ) (d facts : Explained) (later : Bool)
    (kept written whole : List ℕ) (before now after : Option (List ℕ)) (room : number < length all) (is : facts ≡ get_or all number d)
    (more : written ≡ kept ++ shown_item lines selection later number facts)
    (so_far : TakesAllBut before now (kept ++ events_from lines selection later number (drop number all)) whole) where
  joined : written ++ events_from lines selection (later || is_shown selection number facts.1) (number + 1) (drop (number + 1) all)
      ≡ kept ++ events_from lines selection later number (drop number all)
  joined =
      let next : drop number all ≡ facts ∷ drop (number + 1) all =
      rw add-one (drop-cons all number d room ∙ ap (λ f. f ∷ drop (suc number) all) (sym is)) in
      rw (next, one_more lines selection later number facts (drop (number + 1) all), more, append_assoc) refl

  -- it was written, and what was kept was put up to what is still kept
  pub event_takes : (still : List ℕ) → TakesAllBut now after still written
      → TakesAllBut before after (still ++ events_from lines selection (later || is_shown selection number facts.1) (number + 1) (drop (number + 1) all)) whole
  event_takes still put = takes_then before now after written _ _ still whole joined so_far put

  -- the same where the put failed
  pub event_stops : TakesPrefix now after written → TakesPrefix before after whole
  event_stops stop = stops_then before now after written _ _ whole joined so_far stop

-- no event is left but the bracket after them
pub events_end : (lines : LineParts) (selection : Selection) (all : List Explained) (number : ℕ) (later : Bool) (kept whole : List ℕ)
    (before now : Option (List ℕ)) → length all ≤ number
    → TakesAllBut before now (kept ++ events_from lines selection later number (drop number all)) whole
    → TakesAllBut before now (kept ++ 93 ∷ []) whole
unfolding shown_from
events_end lines selection all number later kept whole before now ended so_far =
    let none : drop number all ≡ [] = drop_of_length-le all ended in
    rw none at so_far

-- ---- the whole

regrouped : (a b c d e f entries events one image : List ℕ)
    → (a ++ (entries ++ (b ++ (events ++ (c ++ (one ++ (d ++ (image ++ e)))))))) ++ f
    ≡ (a ++ (entries ++ b)) ++ (events ++ (c ++ (one ++ (d ++ (image ++ (e ++ f))))))
regrouped a b c d e f entries events one image = simp append_assoc

pub json_parts : (image : ImageParts) (lines : LineParts) (selection : Selection) (order : List Op)
    → explanation_json image lines selection order
    ≡ json_head (length order) ++ (events_from lines selection false 0 (explained_events image order) ++ json_end image)
unfolding explanation_data json_end serde_json_on_literals
json_parts image lines selection order =
    regrouped (codes "{\"entries\":") (codes ",\"events\":[") (codes ",\"explanation\":") (codes ",\"image\":") (codes "}") (10 ∷ [])
    (decimal (length order)) (events_from lines selection false 0 (explained_events image order)) (decimal 1) (compact_text (image_data image))
