-- The text of the JSON report is that of its pieces.
use Rattle.std.proofs.Common.{◌≡◌, Greater, ℕ, ◌+◌, ◌<◌, ◌≤◌, List, [], ◌∷◌, ◌++◌, length, codes, decimal, Bool, true, false, ◌||◌, if◌then◌else◌, refl, sym, ap, ◌∙◌, inl, inr, append_assoc, append-nil, arith}
use Rattle.std.proofs.lemmas.Bool.{cases_Bool}
use Rattle.std.specs.Cmp.Lexicographic.{slice_cmp}
use Rattle.std.specs.Ordering.{nat_cmp}
use Rattle.serde_json.proofs.OnLiterals.{serde_json_on_literals}
use Rattle.serde_json.specs.Data.{Data, string, Members, no_members, member, put}
use Rattle.serde_json.specs.Written.{comma_if, compact_text, members_text}
use Rattle.cheri_model.specs.declared.operation.Event.{Event}
use Rattle.cap_model.specs.values.CapValue.{CapValue}
use Rattle.cheri_model.specs.runs.Image.{ImageParts}
use Rattle.cheri_model.specs.runs.ImageRules.{is_listed}
use Rattle.cheri_model.specs.runs.Machine.{MachineState}
use Rattle.report_lines.specs.EventData.{image_data}
use Rattle.report_lines.specs.Names.{address_of_granule}
use Rattle.report_lines.specs.ValueData.{value_data}
use Rattle.report_lines.specs.ValueText.{hex_text}
use Rattle.report_lines.proofs.JsonTexts.{hex_order, plain_digits}
use Rattle.reports.specs.Json.{events_data, harts_data, memory_data, put_granules, json_report}
use Rattle.reports.specs.JsonText.{granule_member, granule_members, last_part, json_parts}
use Rattle.reports.specs.Report.{version_of}

-- ---- members in order

-- the members with one more after them
abbrev followed_by : Members → List ℕ → Data → Members
followed_by no_members k d = member k d no_members
followed_by (member l e rest) k d = member l e (followed_by rest k d)

-- the text of members without the closing bracket
abbrev members_body : Bool → Members → List ℕ
members_body later no_members = []
members_body later (member k d rest) = comma_if later ++ (compact_text (string k) ++ 58 ∷ (compact_text d ++ members_body true rest))

abbrev has_some : Members → Bool
has_some no_members = false
has_some (member k d rest) = true

-- a member, and what follows it
member_then : (comma name value rest after : List ℕ)
    → (comma ++ (name ++ 58 ∷ (value ++ rest))) ++ after ≡ comma ++ (name ++ 58 ∷ (value ++ (rest ++ after)))
member_then comma name value rest after = simp append_assoc

body_closed : (later : Bool) (members : Members) → members_text later members ≡ members_body later members ++ 125 ∷ []
body_closed later no_members = refl
body_closed later (member k d rest) =
    ap (λ (l : List ℕ). comma_if later ++ (compact_text (string k) ++ 58 ∷ (compact_text d ++ l))) (body_closed true rest)
    ∙ sym (member_then (comma_if later) (compact_text (string k)) (compact_text d) (members_body true rest) (125 ∷ []))

body_true : (members : Members) (k : List ℕ) (d : Data)
    → members_body true (followed_by members k d) ≡ members_body true members ++ (comma_if true ++ (compact_text (string k) ++ 58 ∷ compact_text d))
body_true no_members k d = rw append-nil refl
body_true (member l e rest) k d =
    ap (λ (x : List ℕ). comma_if true ++ (compact_text (string l) ++ 58 ∷ (compact_text e ++ x))) (body_true rest k d)
    ∙ sym (member_then (comma_if true) (compact_text (string l)) (compact_text e) (members_body true rest)
    (comma_if true ++ (compact_text (string k) ++ 58 ∷ compact_text d)))

body_more : (members : Members) (k : List ℕ) (d : Data)
    → members_body false (followed_by members k d) ≡ members_body false members ++ (comma_if (has_some members) ++ (compact_text (string k) ++ 58 ∷ compact_text d))
body_more no_members k d = rw append-nil refl
body_more (member l e rest) k d =
    ap (λ (x : List ℕ). comma_if false ++ (compact_text (string l) ++ 58 ∷ (compact_text e ++ x))) (body_true rest k d)
    ∙ sym (member_then (comma_if false) (compact_text (string l)) (compact_text e) (members_body true rest)
    (comma_if true ++ (compact_text (string k) ++ 58 ∷ compact_text d)))

some_more : (members : Members) (k : List ℕ) (d : Data) → has_some (followed_by members k d) ≡ true
some_more no_members k d = refl
some_more (member l e rest) k d = refl

-- the key of a granule
abbrev key : ℕ → List ℕ
key number = hex_text 16 (address_of_granule number)

-- keys of granules with lower numbers
abbrev AreBefore : ℕ → Members → Type 0
AreBefore number no_members = Unit {0}
AreBefore number (member l e rest) = ((n : ℕ) × ((n < number) × (l ≡ key n))) × AreBefore number rest

key_order : (a b : ℕ) → b < a → a ≤ 65536 → slice_cmp nat_cmp (key a) (key b) ≡ Greater
key_order a b less most = hex_order 16 64 (address_of_granule a) (address_of_granule b) refl (omega arith) (omega arith)

put_after : (number : ℕ) (d : Data) (members : Members) → AreBefore number members → number ≤ 65536
    → put (key number) d members ≡ followed_by members (key number) d
put_after number d no_members before most = refl
put_after number d (member l e rest) before most =
    let place = before.0 in
    rw (place.1.1, key_order number place.0 place.1.0 most) (ap (member (key place.0) e) (put_after number d rest before.1 most))

still_before : (number : ℕ) (members : Members) → AreBefore number members → AreBefore (number + 1) members
still_before number no_members before = tt
still_before number (member l e rest) before =
    let less = before.0.1.0 in ((before.0.0, (omega arith, before.0.1.1)), still_before number rest before.1)

one_before : (number : ℕ) (d : Data) (members : Members) → AreBefore number members
    → AreBefore (number + 1) (followed_by members (key number) d)
one_before number d no_members before = ((number, (omega arith, refl)), tt)
one_before number d (member l e rest) before =
    let less = before.0.1.0 in ((before.0.0, (omega arith, before.0.1.1)), one_before number d rest before.1)

or_true : (b : Bool) → (b || true) ≡ true
or_true true = refl
or_true false = refl

or_false : (b : Bool) → (b || false) ≡ b
or_false true = refl
or_false false = refl

granules_are : (number : ℕ) (vs : List CapValue) (members : Members) → AreBefore number members → number + length vs ≤ 65536
    → members_text false (put_granules number vs members)
    ≡ members_body false members ++ (granule_members (has_some members) number vs ++ 125 ∷ [])
unfolding put_granules granule_members granule_member
granules_are number [] members before most = body_closed false members
granules_are number (v ∷ rest) members before most = elim (cases_Bool (is_listed v)) [
  | inl listed ↦
      (let placed = put_after number (value_data v) members before (omega arith) in
      let others = granules_are (number + 1) rest (followed_by members (key number) (value_data v))
      (one_before number (value_data v) members before) (omega arith) in
      let made = rw (body_more members (key number) (value_data v), some_more members (key number) (value_data v)) at others in
      rw (listed, placed, or_true) (made ∙ simp append_assoc))
  | inr unlisted ↦
      (let others = granules_are (number + 1) rest members (still_before number members before) (omega arith) in
      rw (unlisted, or_false) others)
]

-- ---- the whole

pub memory_text : (memory : List CapValue) → length memory ≤ 65536
    → compact_text (memory_data memory) ≡ 123 ∷ (granule_members false 0 memory ++ 125 ∷ [])
memory_text memory most = ap (λ (l : List ℕ). 123 ∷ l) (granules_are 0 memory no_members tt (omega arith))

-- a report's parts, regrouped by what is written after one another
whole_regrouped : (a b c d e f entries harts image mem version : List ℕ)
    → a ++ (entries ++ (b ++ (harts ++ (c ++ (image ++ (d ++ (mem ++ (e ++ (version ++ f)))))))))
    ≡ ((a ++ entries) ++ ((b ++ harts) ++ ((c ++ (image ++ d)) ++ mem))) ++ (e ++ (version ++ f))
whole_regrouped a b c d e f entries harts image mem version = simp append_assoc

-- a report is what is shown and its end
pub json_report_text : (image : ImageParts) (events : List Event) (state : MachineState)
    → compact_text (json_report image events state) ≡ json_parts image events state ++ last_part events
unfolding json_report json_parts last_part serde_json_on_literals
json_report_text image events state =
    whole_regrouped (codes "{\"entries\":") (codes ",\"harts\":") (codes ",\"image\":") (codes ",\"mem\":")
    (codes ",\"report\":") (codes "}") (compact_text (events_data events)) (compact_text (harts_data state.harts))
    (compact_text (image_data image)) (compact_text (memory_data state.memory)) (decimal (version_of events))

-- ---- a granule

name_then : (old comma name value : List ℕ)
    → ((((old ++ comma) ++ 34 ∷ []) ++ name) ++ 34 ∷ 58 ∷ []) ++ value ≡ old ++ (comma ++ ((34 ∷ (name ++ 34 ∷ [])) ++ 58 ∷ value))
name_then old comma name value = simp append_assoc

pub granule_written : (later : Bool) (place : ℕ) (v : CapValue) (old first second third fourth new : List ℕ)
    → is_listed v ≡ true → first ≡ old ++ comma_if later → second ≡ first ++ 34 ∷ []
    → third ≡ second ++ hex_text 16 (address_of_granule place) → fourth ≡ third ++ 34 ∷ 58 ∷ []
    → new ≡ fourth ++ compact_text (value_data v) → new ≡ old ++ granule_member later place v
unfolding granule_member
granule_written later place v old first second third fourth new listed a b c d e =
    let name : List ℕ = hex_text 16 (address_of_granule place) in
    rw (listed, e, d, c, b, a)
    (name_then old (comma_if later) name (compact_text (value_data v))
    ∙ ap (λ (l : List ℕ). old ++ (comma_if later ++ (l ++ 58 ∷ compact_text (value_data v)))) (sym (plain_digits 16 (address_of_granule place))))
