-- What is said of properties is its parts.
use Rattle.std.proofs.Common.{◌≡◌, ℕ, Bool, true, false, List, [], ◌∷◌, ◌++◌, codes, decimal, map, refl, sym, ap, ◌∙◌, append_assoc}
use Rattle.std.specs.Prelude.{Option, Some, None}
use Rattle.serde_json.proofs.OnLiterals.{serde_json_on_literals}
use Rattle.serde_json.specs.Data.{Data, boolean, array, object, no_members, member}
use Rattle.serde_json.specs.View.{items_of}
use Rattle.serde_json.specs.Written.{compact_text, has_float}
use Rattle.cheri_model.specs.runs.Image.{ImageParts}
use Rattle.explore_checks.specs.CheckParts.{check_json, check_lines, checked_whole, complete_text, json_head}
use Rattle.explore_checks.specs.CheckTexts.{check_data, check_text, property_data, verdict_data}
use Rattle.explore_checks.specs.ReducedChecks.{reduced_check_data, reduced_check_text, said_checked}
use Rattle.explore_properties.specs.Properties.{PropertyParts}
use Rattle.explore_verdicts.specs.declared.verdict.PropertyVerdict.{PropertyVerdict}
use Rattle.explore_verdicts.specs.declared.verdict.Verdict.{Verdict}
use Rattle.explore_verdicts.specs.declared.verdict.Verdict.TheVariants.{Holds, HoldsAfter, Violated, ViolatedAfter, ViolatedBy, Unknown}
use Rattle.reduced_texts.specs.ReducedTexts.{reduced_data, reduced_member}
use Rattle.reductions.specs.declared.reduction.LeftOut.{LeftOut}
use Rattle.report_lines.specs.EventData.{image_data}
use Rattle.report_lines.specs.JsonText.{item_text}
use Rattle.report_lines.specs.Texts.{numbered}
use Rattle.report_lines.specs.ValueData.{count}
use Rattle.report_lines.proofs.JsonLists.{list_text}
use Rattle.shown_states.specs.declared.form.Format.{Format}
use Rattle.shown_states.specs.declared.form.Format.TheVariants.{Text, Json}

verdict_no_float : (property : PropertyParts) (verdict : Verdict) → has_float (verdict_data property verdict) ≡ false
verdict_no_float property Holds = refl
verdict_no_float property (HoldsAfter order) = refl
verdict_no_float property Violated = refl
verdict_no_float property (ViolatedAfter order) = refl
verdict_no_float property (ViolatedBy lasso) = refl
verdict_no_float property Unknown = refl

pub property_no_float : (told : PropertyVerdict) → has_float (property_data told) ≡ false
unfolding property_data
property_no_float told = verdict_no_float told.property.now told.verdict

-- the object's line without its end, where nothing was left out, and where something was
check_object : (complete : Bool) (i a : Data) (n : ℕ)
    → compact_text (object (member (codes "complete") (boolean complete) (member (codes "explore") (count 1)
    (member (codes "image") i (member (codes "properties") a (member (codes "states") (count n) no_members))))))
    ≡ codes "{\"complete\":" ++ (complete_text complete ++ (codes ",\"explore\":" ++ (decimal 1
    ++ (codes ",\"image\":" ++ (compact_text i ++ (codes ",\"properties\":" ++ (compact_text a ++ (codes ",\"states\":" ++ (decimal n ++ codes "}")))))))))
unfolding serde_json_on_literals
check_object true i a n = refl
check_object false i a n = refl

reduced_object : (complete : Bool) (i a d : Data) (n : ℕ)
    → compact_text (object (member (codes "complete") (boolean complete) (member (codes "explore") (count 2)
    (member (codes "image") i (member (codes "properties") a (member (codes "reduced") d
    (member (codes "states") (count n) no_members)))))))
    ≡ codes "{\"complete\":" ++ (complete_text complete ++ (codes ",\"explore\":" ++ (decimal 2
    ++ (codes ",\"image\":" ++ (compact_text i ++ (codes ",\"properties\":" ++ (compact_text a
    ++ ((codes ",\"reduced\":" ++ compact_text d) ++ (codes ",\"states\":" ++ (decimal n ++ codes "}"))))))))))
unfolding serde_json_on_literals
reduced_object true i a d n = refl
reduced_object false i a d n = refl

in_parts : (a complete c one d i f items m g n : List ℕ)
    → (a ++ (complete ++ (c ++ (one ++ (d ++ (i ++ (f ++ ((91 ∷ (items ++ 93 ∷ [])) ++ (m ++ (g ++ (n ++ codes "}"))))))))))) ++ 10 ∷ []
    ≡ (a ++ (complete ++ (c ++ (one ++ (d ++ i))))) ++ ((f ++ 91 ∷ []) ++ (items ++ (93 ∷ (m ++ (g ++ (n ++ codes "}\n"))))))
in_parts a complete c one d i f items m g n = simp append_assoc

-- an object's line whose version is this, with this member before the number of states
grouped : (complete : Bool) (version : ℕ) (m : List ℕ) (image : ImageParts) (states : ℕ) (verdicts : List PropertyVerdict) (text : List ℕ)
    → text ≡ codes "{\"complete\":" ++ (complete_text complete ++ (codes ",\"explore\":" ++ (decimal version
    ++ (codes ",\"image\":" ++ (compact_text (image_data image) ++ (codes ",\"properties\":"
    ++ (compact_text (array (items_of (map property_data verdicts))) ++ (m ++ (codes ",\"states\":" ++ (decimal states ++ codes "}"))))))))))
    → text ++ 10 ∷ []
    ≡ (codes "{\"complete\":" ++ (complete_text complete ++ (codes ",\"explore\":" ++ (decimal version
    ++ (codes ",\"image\":" ++ compact_text (image_data image))))))
    ++ (codes ",\"properties\":[" ++ (numbered (item_text property_data) 0 verdicts
    ++ (93 ∷ (m ++ (codes ",\"states\":" ++ (decimal states ++ codes "}\n"))))))
grouped complete version m image states verdicts text is =
    ap (λ (l : List ℕ). l ++ 10 ∷ []) (is
    ∙ ap (λ (l : List ℕ). codes "{\"complete\":" ++ (complete_text complete ++ (codes ",\"explore\":" ++ (decimal version
    ++ (codes ",\"image\":" ++ (compact_text (image_data image) ++ (codes ",\"properties\":" ++ (l
    ++ (m ++ (codes ",\"states\":" ++ (decimal states ++ codes "}"))))))))))) (list_text property_data verdicts))
    ∙ in_parts (codes "{\"complete\":") (complete_text complete) (codes ",\"explore\":") (decimal version) (codes ",\"image\":")
    (compact_text (image_data image)) (codes ",\"properties\":") (numbered (item_text property_data) 0 verdicts) m (codes ",\"states\":")
    (decimal states)

plain_is : (complete : Bool) (image : ImageParts) (states : ℕ) (verdicts : List PropertyVerdict)
    → compact_text (check_data complete image states verdicts) ++ 10 ∷ [] ≡ check_json None complete image states verdicts
unfolding check_data check_json json_head
plain_is complete image states verdicts =
    grouped complete 1 [] image states verdicts _
    (check_object complete (image_data image) (array (items_of (map property_data verdicts))) states)

reduced_is : (left_out : LeftOut) (complete : Bool) (image : ImageParts) (states : ℕ) (verdicts : List PropertyVerdict)
    → compact_text (reduced_check_data left_out complete image states verdicts) ++ 10 ∷ []
    ≡ check_json (Some left_out) complete image states verdicts
unfolding reduced_check_data check_json json_head reduced_member
reduced_is left_out complete image states verdicts =
    grouped complete 2 (codes ",\"reduced\":" ++ compact_text (reduced_data left_out)) image states verdicts _
    (reduced_object complete (image_data image) (array (items_of (map property_data verdicts))) (reduced_data left_out) states)

-- what is said is its parts
whole_is : (reduced : Option LeftOut) (format : Format) (complete : Bool) (image : ImageParts) (states : ℕ) (verdicts : List PropertyVerdict)
    → checked_whole reduced format complete image states verdicts ≡ said_checked reduced format complete image states verdicts
unfolding check_lines check_text reduced_check_text
whole_is None Text complete image states verdicts = refl
whole_is None Json complete image states verdicts = sym (plain_is complete image states verdicts)
whole_is (Some left_out) Text complete image states verdicts = refl
whole_is (Some left_out) Json complete image states verdicts = sym (reduced_is left_out complete image states verdicts)

pub said_whole : (reduced : Option LeftOut) (format : Format) (complete : Bool) (image : ImageParts) (states : ℕ)
    (verdicts : List PropertyVerdict) (text : List ℕ) → text ≡ checked_whole reduced format complete image states verdicts
    → text ≡ said_checked reduced format complete image states verdicts
said_whole reduced format complete image states verdicts text is = is ∙ whole_is reduced format complete image states verdicts
