-- What is said, in the parts in which it is written.
use Rattle.std.proofs.Common.{◌≡◌, ◌∙◌, ℕ, Bool, false, List, [], ◌∷◌, ◌++◌, Option, Some, None, codes, decimal, refl, sym, append_assoc}
use Rattle.serde_json.proofs.OnLiterals.{serde_json_on_literals}
use Rattle.serde_json.specs.Data.{string}
use Rattle.serde_json.specs.Written.{compact_text, has_float}
use Rattle.cheri_model.specs.declared.operation.Op.{Op}
use Rattle.cheri_model.specs.runs.Image.{ImageParts}
use Rattle.cheri_model.specs.runs.Machine.{MachineState}
use Rattle.order_texts.specs.OrderTexts.{order_text}
use Rattle.report_lines.specs.EventData.{image_data}
use Rattle.report_lines.specs.Texts.{line}
use Rattle.reduced_texts.specs.ReducedTexts.{line_if_any, reduced_line, reduced_member}
use Rattle.reduced_texts.specs.ReducedTexts as words
use Rattle.reduced_texts.proofs.DataLemmas.{reduced_no_float}
use Rattle.reductions.specs.declared.reduction.LeftOut.{LeftOut}
use Rattle.reports.specs.Json.{harts_data, memory_data}
use Rattle.shown_states.specs.StateTexts.{state_lines, state_members}
use Rattle.shown_states.specs.declared.form.Format.{Format}
use Rattle.shown_states.specs.declared.form.Format.TheVariants.{Text, Json}
use Rattle.found_texts.specs.FoundTexts.{found_line, found_text, found_data, absent_data, absent_line}
use Rattle.found_texts.specs.ReducedTexts.{reduced_found_data, reduced_absent_data}
use Rattle.found_texts.specs.ReducedTexts.{said_absent, said_absent_data, said_found}
use Rattle.found_texts.specs.FoundParts.{image_members, order_member, found_parts, found_tail}

pub absent_no_float : (left_out : Option LeftOut) (complete : Bool) (image : ImageParts) (states : ℕ) →
    has_float (said_absent_data left_out complete image states) ≡ false
unfolding absent_data reduced_absent_data image_data
absent_no_float None complete image states = refl
absent_no_float (Some left_out) complete image states = rw (reduced_no_float left_out) refl

-- the lines, and the object's line, are what is said in their form
pub said_lines : (left_out : Option LeftOut) (complete : Bool) (image : ImageParts) (states : ℕ) →
    line_if_any left_out ++ absent_line complete states ≡ said_absent left_out Text complete image states
said_lines None complete image states = refl
said_lines (Some left_out) complete image states = refl

pub said_json : (left_out : Option LeftOut) (complete : Bool) (image : ImageParts) (states : ℕ) →
    line (compact_text (said_absent_data left_out complete image states)) ≡ said_absent left_out Json complete image states
said_json None complete image states = refl
said_json (Some left_out) complete image states = refl

regrouped : (a one b image c str d e harts f mem z h : List ℕ)
    → (a ++ (one ++ (b ++ (image ++ (c ++ (str ++ ((d ++ e) ++ ((harts ++ (f ++ (mem ++ z))) ++ z)))))))) ++ h
    ≡ (((a ++ (one ++ (b ++ image))) ++ ((c ++ str) ++ d)) ++ ((e ++ harts) ++ (f ++ mem))) ++ ((z ++ z) ++ h)
regrouped a one b image c str d e harts f mem z h = simp append_assoc

-- the same with a member more before the state
regrouped_more : (a two b image c str g r d e harts f mem z h : List ℕ)
    → (a ++ (two ++ (b ++ (image ++ (c ++ (str ++ (g ++ (r ++ ((d ++ e) ++ ((harts ++ (f ++ (mem ++ z))) ++ z)))))))))) ++ h
    ≡ (((a ++ (two ++ (b ++ image))) ++ ((c ++ str) ++ ((g ++ r) ++ d))) ++ ((e ++ harts) ++ (f ++ mem))) ++ ((z ++ z) ++ h)
regrouped_more a two b image c str g r d e harts f mem z h = simp append_assoc

-- what is said of a state that was found is its parts and the end
pub found_whole : (format : Format) (left_out : Option LeftOut) (image : ImageParts) (order : List Op) (state : MachineState)
    → said_found left_out format image order state ≡ found_parts format left_out image order state ++ found_tail format
unfolding found_text found_data reduced_found_data image_members order_member reduced_member state_members serde_json_on_literals
found_whole Text None image order state = sym (append_assoc (found_line order) (state_lines state) (codes "end" ++ 10 ∷ []))
found_whole Text (Some left_out) image order state =
    sym (append_assoc (reduced_line left_out ++ found_line order) (state_lines state) (codes "end" ++ 10 ∷ [])
    ∙ append_assoc (reduced_line left_out) (found_line order) (state_lines state ++ (codes "end" ++ 10 ∷ [])))
found_whole Json None image order state =
    regrouped (codes "{\"answer\":\"found\",\"explore\":") (decimal 1) (codes ",\"image\":") (compact_text (image_data image))
    (codes ",\"order\":") (compact_text (string (order_text order))) (codes ",\"state\":{") (codes "\"harts\":")
    (compact_text (harts_data state.harts)) (codes ",\"mem\":") (compact_text (memory_data state.memory)) (125 ∷ []) (10 ∷ [])
found_whole Json (Some left_out) image order state =
    regrouped_more (codes "{\"answer\":\"found\",\"explore\":") (decimal 2) (codes ",\"image\":") (compact_text (image_data image))
    (codes ",\"order\":") (compact_text (string (order_text order))) (codes ",\"reduced\":")
    (compact_text (words.reduced_data left_out)) (codes ",\"state\":{") (codes "\"harts\":") (compact_text (harts_data state.harts))
    (codes ",\"mem\":") (compact_text (memory_data state.memory)) (125 ∷ []) (10 ∷ [])

-- three parts, one after another
pub in_three : (none first second third head state tail : List ℕ) → none ≡ [] → first ≡ none ++ head → second ≡ first ++ state
    → third ≡ second ++ tail → third ≡ (head ++ state) ++ tail
in_three none first second third head state tail is one two three = rw (three, two, one, is) refl
