-- Values of facts in JSON, piece by piece.
use Rattle.std.proofs.Common.{◌≡◌, ℕ, List, [], ◌++◌, Option, Some, None, codes, decimal, ap, append_assoc, append-nil}
use Rattle.std.specs.Option.{option_map}
use Rattle.serde_json.proofs.OnLiterals.{serde_json_on_literals}
use Rattle.json.specs.Print.{escape}
use Rattle.serde_json.specs.Data.{object, member, no_members}
use Rattle.serde_json.specs.Written.{compact_text}
use Rattle.report_lines.specs.ValueData.{capability_members, untagged_members}
use Rattle.origins.specs.declared.place.Place.{Place}
use Rattle.origins.specs.declared.place.Spot.{Spot}
use Rattle.cheri_model.specs.instructions.Form.{form_of}
use Rattle.notation.specs.Instructions.{form_text}
use Rattle.report_lines.specs.ValueText.{hex_text}
use Rattle.facts.specs.declared.step_facts.NamedValue.{NamedValue}
use Rattle.facts.specs.declared.step_facts.Extent.{Extent}
use Rattle.facts.specs.declared.step_facts.Cleared.{Cleared}
use Rattle.facts.specs.declared.step_facts.Fetched.{Fetched}
use Rattle.explanations.specs.Names.{spot_name, origin_name}
use Rattle.explanations.specs.Reasons.{why_text}
use Rattle.explanations.specs.FactData.{put_any, origin_data, named_data, spot_key, extent_data, cleared_data, instruction_data}
use Rattle.explanations.specs.JsonText.{if_there}
use Rattle.explanations.proofs.PlainTexts as plain

-- ---- the same text, grouped to the right

quoted_then : (a b q s : List ℕ) → a ++ ((s ++ q) ++ b) ≡ a ++ (s ++ (q ++ b))
quoted_then a b q s = simp append_assoc

-- an origin before a word
before_word : (a comma b c q o w : List ℕ) →
    a ++ (o ++ (comma ++ (b ++ ((w ++ q) ++ c)))) ≡ (a ++ (o ++ comma)) ++ (b ++ (w ++ (q ++ c)))
before_word a comma b c q o w = simp append_assoc

tagged_parts : (a b c d e f q base perms top otype word : List ℕ) →
    a ++ ((base ++ q) ++ (b ++ ((perms ++ q) ++ (c ++ ((top ++ q) ++ (d ++ ((otype ++ q) ++ (e ++ ((word ++ q) ++ f)))))))))
    ≡ a ++ (base ++ (q ++ (b ++ (perms ++ ((q ++ c) ++ (top ++ ((q ++ d) ++ (otype ++ ((q ++ e) ++ (word ++ (q ++ f)))))))))))
tagged_parts a b c d e f q base perms top otype word = simp append_assoc

tagged_parts_from : (a b c d e f g q base perms top otype word o : List ℕ) →
    a ++ ((base ++ q) ++ (g ++ (o ++ (b ++ ((perms ++ q) ++ (c ++ ((top ++ q) ++ (d ++ ((otype ++ q) ++ (e ++ ((word ++ q) ++ f)))))))))))
    ≡ a ++ (base ++ (q ++ ((g ++ (o ++ [])) ++ (b ++ (perms ++ ((q ++ c) ++ (top ++ ((q ++ d) ++ (otype ++ ((q ++ e) ++ (word ++ (q ++ f))))))))))))
tagged_parts_from a b c d e f g q base perms top otype word o = simp (append_assoc, append-nil)

under_parts : (a b c q key value : List ℕ) → a ++ ((key ++ q) ++ (b ++ (value ++ c))) ≡ a ++ (key ++ ((q ++ b) ++ (value ++ c)))
under_parts a b c q key value = simp append_assoc

both_parts : (a b c d q key value later other : List ℕ) →
    a ++ ((key ++ q) ++ (b ++ (value ++ (c ++ ((later ++ q) ++ (b ++ (other ++ d)))))))
    ≡ a ++ (key ++ ((q ++ b) ++ (value ++ (c ++ (later ++ ((q ++ b) ++ (other ++ d)))))))
both_parts a b c d q key value later other = simp append_assoc

at_parts : (a b c comma q address bytes : List ℕ) →
    a ++ (((address ++ q) ++ (b ++ (bytes ++ c))) ++ comma) ≡ a ++ (address ++ ((q ++ b) ++ (bytes ++ (c ++ comma))))
at_parts a b c comma q address bytes = simp append_assoc

cleared_parts : (a b c comma q name reason : List ℕ) →
    a ++ (((name ++ q) ++ (b ++ ((reason ++ q) ++ c))) ++ comma) ≡ a ++ (name ++ ((q ++ b) ++ (reason ++ (q ++ (c ++ comma)))))
cleared_parts a b c comma q name reason = simp append_assoc

instruction_parts : (a q text : List ℕ) → a ++ ((text ++ q) ++ []) ≡ a ++ (text ++ q)
instruction_parts a q text = simp append-nil

-- ---- values

pub from_text : (before after : List ℕ) (origin : Option Place) (place : Place) → origin ≡ Some place →
    if_there before after (option_map origin_data origin) ≡ before ++ (codes "\"" ++ (origin_name place ++ (codes "\"" ++ after)))
unfolding serde_json_on_literals
from_text before after origin place is = rw (is, plain.origin place) (ap (λ t. before ++ t) (quoted_then (codes "\"") after (codes "\"") (origin_name place)))

pub untagged_text : (origin : Option Place) (word : List ℕ) → plain.IsPlain word →
    compact_text (object (put_any (codes "from") origin_data origin (untagged_members word)))
    ≡ codes "{" ++ (if_there (codes "\"from\":") (codes ",") (option_map origin_data origin)
    ++ (codes "\"tag\":false,\"word\":\"" ++ (word ++ codes "\"}")))
unfolding serde_json_on_literals
untagged_text None word is = rw is (quoted_then (codes "{\"tag\":false,\"word\":\"") (codes "}") (codes "\"") word)
untagged_text (Some place) word is =
    rw is (before_word (codes "{\"from\":\"") (codes ",") (codes "\"tag\":false,\"word\":\"") (codes "}") (codes "\"")
    (escape (origin_name place) ++ codes "\"") word)

pub tagged_text : (origin : Option Place) (base perms top otype word : List ℕ) →
    plain.IsPlain base → plain.IsPlain perms → plain.IsPlain top → plain.IsPlain otype → plain.IsPlain word →
    compact_text (object (put_any (codes "from") origin_data origin (capability_members base perms top otype word)))
    ≡ codes "{\"base\":\"" ++ (base ++ (codes "\"" ++ (if_there (codes ",\"from\":") [] (option_map origin_data origin)
    ++ (codes ",\"perms\":\"" ++ (perms ++ (codes "\",\"tag\":true,\"top\":\"" ++ (top
    ++ (codes "\",\"type\":\"" ++ (otype ++ (codes "\",\"word\":\"" ++ (word ++ codes "\"}")))))))))))
unfolding serde_json_on_literals
tagged_text None base perms top otype word b p t o w =
    rw (b, p, t, o, w)
    (tagged_parts (codes "{\"base\":\"") (codes ",\"perms\":\"") (codes ",\"tag\":true,\"top\":\"") (codes ",\"type\":\"") (codes ",\"word\":\"")
    (codes "}") (codes "\"") base perms top otype word)
tagged_text (Some place) base perms top otype word b p t o w =
    rw (b, p, t, o, w)
    (tagged_parts_from (codes "{\"base\":\"") (codes ",\"perms\":\"") (codes ",\"tag\":true,\"top\":\"") (codes ",\"type\":\"") (codes ",\"word\":\"")
    (codes "}") (codes ",\"from\":") (codes "\"") base perms top otype word (compact_text (origin_data place)))

pub under_text : (spot : Spot) (named : NamedValue) →
    compact_text (object (member (spot_key spot) (named_data named) no_members))
    ≡ codes "{\"" ++ (spot_key spot ++ (codes "\":" ++ (compact_text (named_data named) ++ codes "}")))
unfolding serde_json_on_literals
under_text spot named =
    rw (plain.key spot) (under_parts (codes "{\"") (codes ":") (codes "}") (codes "\"") (spot_key spot) (compact_text (named_data named)))

pub both_text : (first second : NamedValue) →
    compact_text (object (member (spot_key first.name) (named_data first) (member (spot_key second.name) (named_data second) no_members)))
    ≡ codes "{\"" ++ (spot_key first.name ++ (codes "\":" ++ (compact_text (named_data first)
    ++ (codes ",\"" ++ (spot_key second.name ++ (codes "\":" ++ (compact_text (named_data second) ++ codes "}")))))))
unfolding serde_json_on_literals
both_text first second =
    rw (plain.key first.name, plain.key second.name)
    (both_parts (codes "{\"") (codes ":") (codes ",\"") (codes "}") (codes "\"") (spot_key first.name) (compact_text (named_data first))
    (spot_key second.name) (compact_text (named_data second)))

-- ---- members of a step

pub at_text : (at : Option Extent) (extent : Extent) → at ≡ Some extent →
    if_there (codes "\"at\":") (codes ",") (option_map extent_data at)
    ≡ codes "\"at\":{\"address\":\"" ++ (hex_text 16 extent.address ++ (codes "\",\"bytes\":" ++ (decimal extent.bytes ++ codes "},")))
unfolding serde_json_on_literals
at_text at extent is =
    rw (is, plain.hex 16 extent.address)
    (at_parts (codes "\"at\":{\"address\":\"") (codes ",\"bytes\":") (codes "}") (codes ",") (codes "\"") (hex_text 16 extent.address) (decimal extent.bytes))

pub cleared_text : (clears : Option Cleared) (cleared : Cleared) → clears ≡ Some cleared →
    if_there (codes "\"clears\":") (codes ",") (option_map cleared_data clears)
    ≡ codes "\"clears\":{\"" ++ (spot_name cleared.name ++ (codes "\":\"" ++ (why_text cleared.why ++ codes "\"},")))
unfolding serde_json_on_literals
cleared_text clears cleared is =
    rw (is, plain.spot cleared.name, plain.reason cleared.why)
    (cleared_parts (codes "\"clears\":{\"") (codes ":\"") (codes "}") (codes ",") (codes "\"") (spot_name cleared.name) (why_text cleared.why))

pub instruction_text : (fetched : Option Fetched) (instruction : Fetched) → fetched ≡ Some instruction →
    if_there (codes ",\"instruction\":") (codes "") (option_map instruction_data fetched)
    ≡ codes ",\"instruction\":\"" ++ (form_text (form_of instruction.instr) ++ codes "\"")
unfolding serde_json_on_literals
instruction_text fetched instruction is =
    rw (is, plain.instruction (form_of instruction.instr))
    (instruction_parts (codes ",\"instruction\":\"") (codes "\"") (form_text (form_of instruction.instr)))
