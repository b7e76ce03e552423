-- An explanation in JSON and a state in JSON have no mark.
use Rattle.std.proofs.Common.{◌≡◌, ℕ, zero, suc, ◌+◌, Bool, true, false, ◌||◌, if◌then◌else◌, List, [], ◌∷◌, ◌++◌, length, map, codes, decimal, refl, Option, Some, None}
use Rattle.serde_json.specs.Data.{Data, object, array, string, Members, no_members, member, put}
use Rattle.serde_json.specs.View.{items_of}
use Rattle.serde_json.specs.Written.{compact_text}
use Rattle.cap_model.specs.values.CapValue.{CapValue, bits_of, tag_of, parts_of}
use Rattle.cheri_model.specs.declared.operation.Op.{Op}
use Rattle.cheri_model.specs.declared.operation.Event.{Event}
use Rattle.cheri_model.specs.declared.operation.Event.TheVariants as event
use Rattle.cheri_model.specs.declared.trace.Outcome.{Outcome}
use Rattle.cheri_model.specs.declared.trace.Outcome.TheVariants as outcome
use Rattle.cheri_model.specs.declared.trace.Status.{Status}
use Rattle.cheri_model.specs.declared.trace.Status.TheVariants as status
use Rattle.cheri_model.specs.instructions.Form.{form_of}
use Rattle.cheri_model.specs.runs.Image.{ImageParts}
use Rattle.cheri_model.specs.runs.ImageRules.{is_listed}
use Rattle.cheri_model.specs.runs.Machine.{MachineState}
use Rattle.cheri_model.specs.steps.Hart.{HartState, register}
use Rattle.report_lines.specs.Names.{address_of_granule, register_name}
use Rattle.report_lines.specs.EventData.{event_members, step_members, image_data}
use Rattle.report_lines.specs.ValueData.{count, value_members}
use Rattle.report_lines.specs.ValueText.{hex_text, type_text, word_text}
use Rattle.reports.specs.Json.{status_data}
use Rattle.origins.specs.declared.place.Place.{Place}
use Rattle.origins.specs.declared.place.Spot.TheVariants.{Pcc, Register, Granule}
use Rattle.origins.specs.Origins.{Origins}
use Rattle.facts.specs.declared.step_facts.NamedValue.{NamedValue}
use Rattle.facts.specs.declared.step_facts.UpToTwo.{UpToTwo}
use Rattle.facts.specs.declared.step_facts.UpToTwo.TheVariants.{Zero, One, Two}
use Rattle.facts.specs.declared.step_facts.StepFacts.{StepFacts}
use Rattle.facts.specs.StepFacts.{origin_of}
use Rattle.facts.specs.EventFacts.{EventFacts, step, sweep}
use Rattle.explanations.specs.declared.selection.Selection.{Selection}
use Rattle.explanations.specs.Names.{swept_name, origin_name, spot_name}
use Rattle.explanations.specs.Reasons.{why_text}
use Rattle.explanations.specs.FactData.{spot_key, put_any, named_data, put_named, place_data, put_names, origin_data, extent_data, cleared_data, instruction_data, line_data, why_data, step_data, put_swept, put_clears, sweep_data}
use Rattle.explanations.specs.InstructionLines.{unmapped}
use Rattle.explanations.proofs.FactLemmas.{no_source}
use Rattle.explanations.specs.Explanation.{Explained, event_data, shown_from, explained_events, explanation_data, explanation_json}
use Rattle.explained_page.specs.ScriptText.{has_mark}
use Rattle.explained_page.specs.State.{put_value, put_registers, hart_data, harts_from, put_granules, state_data}
use Rattle.explained_page.proofs.PlainTexts.{joined, both, decimal_plain, hex_plain, marked, members_marked, items_marked, put_plain, each_plain, text_plain}
use Rattle.explained_page.proofs.PlainNames.{form_plain, type_plain, word_plain, register_plain, spot_plain, key_plain, swept_plain, origin_plain, why_plain, trap_why_plain}

abbrev ArePlain : Members → Type 0
ArePlain members = members_marked members ≡ false

count_plain : (n : ℕ) → marked (count n) ≡ false
count_plain n = decimal_plain n

members_by : (b : Bool) (x y : Members) → ArePlain x → ArePlain y → ArePlain (if b then x else y)
members_by true x y first second = first
members_by false x y first second = second

-- ---- values

value_plain : (v : CapValue) → ArePlain (value_members v)
unfolding value_members
value_plain v =
    members_by (tag_of v) _ _
    (rw (hex_plain 16 (parts_of v).base, hex_plain 5 (parts_of v).perms, hex_plain 17 (parts_of v).top, type_plain (parts_of v).otype, word_plain (bits_of v)) refl)
    (rw (word_plain (bits_of v)) refl)

any : {X : Type 0} (name : List ℕ) (data_of : X → Data) (o : Option X) (members : Members) → has_mark name ≡ false
    → ((x : X) → marked (data_of x) ≡ false) → ArePlain members → ArePlain (put_any name data_of o members)
any name data_of None members key each others = others
any name data_of (Some x) members key each others = put_plain name (data_of x) members key (each x) others

named_plain : (named : NamedValue) → marked (named_data named) ≡ false
unfolding named_data
named_plain named = any (codes "from") origin_data named.origin (value_members named.value) refl origin_plain (value_plain named.value)

-- ---- events

ended_plain : (hart pc : ℕ) (o : Outcome) → ArePlain (step_members (count hart) (string (hex_text 16 pc)) o)
ended_plain hart pc outcome.Done = rw (decimal_plain hart, hex_plain 16 pc) refl
ended_plain hart pc outcome.Halt = rw (decimal_plain hart, hex_plain 16 pc) refl
ended_plain hart pc (outcome.Trap trap) = rw (decimal_plain hart, hex_plain 16 pc, decimal_plain trap.cause, decimal_plain trap.reg) refl

event_plain : (e : Event) → ArePlain (event_members e)
unfolding event_members
event_plain (event.Step entry) = ended_plain entry.hart entry.pc entry.outcome
event_plain (event.Sweep cleared lo hi) = rw (decimal_plain cleared, hex_plain 16 lo, hex_plain 17 hi) refl

image_plain : (image : ImageParts) → marked (image_data image) ≡ false
unfolding image_data
image_plain image = rw (decimal_plain (length image.program), decimal_plain (length image.harts), decimal_plain image.ram) refl

-- ---- facts

one : (named : NamedValue) (members : Members) → ArePlain members → ArePlain (put_named named members)
one named members others = put_plain (spot_key named.name) (named_data named) members (key_plain named.name) (named_plain named) others

names : (name : List ℕ) (named : UpToTwo NamedValue) (members : Members) → has_mark name ≡ false → ArePlain members
    → ArePlain (put_names name named members)
names name Zero members key others = others
names name (One x) members key others = put_plain name (object (put_named x no_members)) members key (one x no_members refl) others
names name (Two x y) members key others =
    put_plain name (object (put_named y (put_named x no_members))) members key (one y (put_named x no_members) (one x no_members refl)) others

step_plain : (lines : List ℕ) (number : ℕ) (facts : StepFacts) → marked (step_data (unmapped lines) number facts) ≡ false
unfolding step_data
step_plain lines number facts =
    let m0 : Members = event_members (event.Step facts.entry) in
    let m1 : Members = put_any (codes "at") extent_data facts.at m0 in
    let m2 : Members = put_any (codes "clears") cleared_data facts.clears m1 in
    let m3 : Members = put_any (codes "finds") place_data facts.finds m2 in
    let m4 : Members = put_any (codes "instruction") instruction_data facts.fetched m3 in
    let m5 : Members = put_any (codes "leaves") place_data facts.leaves m4 in
    let m6 : Members = put_any (codes "line") (line_data (unmapped lines)) facts.fetched m5 in
    let m7 : Members = put (codes "number") (count number) m6 in
    let m8 : Members = put_names (codes "reads") facts.reads m7 in
    let m9 : Members = put_names (codes "sets") facts.sets m8 in
    rw (no_source (unmapped lines) facts.fetched refl)
    (any (codes "why") why_data facts.traps m9 refl (λ x. trap_why_plain x.why)
    (names (codes "sets") facts.sets m8 refl
    (names (codes "reads") facts.reads m7 refl
    (put_plain (codes "number") (count number) m6 refl (count_plain number)
    (any (codes "line") (line_data (unmapped lines)) facts.fetched m5 refl (λ x. decimal_plain _)
    (any (codes "leaves") place_data facts.leaves m4 refl (λ x. one x no_members refl)
    (any (codes "instruction") instruction_data facts.fetched m3 refl (λ x. form_plain (form_of x.instr))
    (any (codes "finds") place_data facts.finds m2 refl (λ x. one x no_members refl)
    (any (codes "clears") cleared_data facts.clears m1 refl (λ x. put_plain (spot_name x.name) (string (why_text x.why)) no_members (spot_plain x.name) (why_plain x.why) refl)
    (any (codes "at") extent_data facts.at m0 refl
    (λ x. put_plain (codes "bytes") (count x.bytes) (put (codes "address") (string (hex_text 16 x.address)) no_members) refl (count_plain x.bytes)
    (put_plain (codes "address") (string (hex_text 16 x.address)) no_members refl (hex_plain 16 x.address) refl))
    (event_plain (event.Step facts.entry))))))))))))

swept : (places : List Place) (members : Members) → ArePlain members → ArePlain (put_swept places members)
unfolding put_swept
swept [] members others = others
swept (place ∷ places) members others =
    swept places (put (swept_name place) (string (codes "swept")) members)
    (put_plain (swept_name place) (string (codes "swept")) members (swept_plain place) refl others)

clears : (places : List Place) (members : Members) → ArePlain members → ArePlain (put_clears places members)
clears [] members others = others
clears (place ∷ places) members others =
    put_plain (codes "clears") (object (put_swept (place ∷ places) no_members)) members refl (swept (place ∷ places) no_members refl) others

sweep_plain : (number : ℕ) (e : Event) (places : List Place) → marked (sweep_data number e places) ≡ false
unfolding sweep_data
sweep_plain number e places =
    clears places (put (codes "number") (count number) (event_members e))
    (put_plain (codes "number") (count number) (event_members e) refl (count_plain number) (event_plain e))

-- ---- an explanation

facts_plain : (lines : List ℕ) (number : ℕ) (e : Event) (f : EventFacts) → marked (event_data (unmapped lines) number (e, f)) ≡ false
facts_plain lines number e (step facts) = step_plain lines number facts
facts_plain lines number e (sweep places) = sweep_plain number e places

pub explanation_plain : (image : ImageParts) (lines : List ℕ) (selection : Selection) (order : List Op)
    → has_mark (explanation_json image (unmapped lines) selection order) ≡ false
unfolding explanation_data
explanation_plain image lines selection order =
    let shown : List (ℕ × Explained) = shown_from selection 0 (explained_events image order) in
    let events = each_plain (λ e. event_data (unmapped lines) e.0 e.1) (λ e. facts_plain lines e.0 e.1.0 e.1.1) shown in
    joined (compact_text (explanation_data image (unmapped lines) selection order)) (10 ∷ [])
    (text_plain (explanation_data image (unmapped lines) selection order)
    (rw (decimal_plain (length order), events, decimal_plain 1, image_plain image) refl)) refl

-- ---- a state

put_by : (listed : Bool) (name : List ℕ) (d : Data) (members : Members) → has_mark name ≡ false → marked d ≡ false → ArePlain members
    → ArePlain (if listed then put name d members else members)
put_by true name d members key none others = put_plain name d members key none others
put_by false name d members key none others = others

value_put : (name : List ℕ) (named : NamedValue) (members : Members) → has_mark name ≡ false → ArePlain members
    → ArePlain (put_value name named members)
value_put name named members key others = put_by (is_listed named.value) name (named_data named) members key (named_plain named) others

registers_plain : (origins : Origins) (number : ℕ) (hart : HartState) (from more : ℕ) (members : Members) → ArePlain members
    → ArePlain (put_registers origins number hart from more members)
unfolding put_registers
registers_plain origins number hart from zero members others = others
registers_plain origins number hart from (suc more) members others =
    registers_plain origins number hart (from + 1) more _
    (value_put (register_name from) (origin_of origins number (Register from) (register hart from)) members (register_plain from) others)

status_plain : (pcc regs : Data) (s : Status) → marked pcc ≡ false → marked regs ≡ false → marked (status_data pcc regs s) ≡ false
status_plain pcc regs status.Running first second = rw (first, second) refl
status_plain pcc regs status.Halted first second = rw (first, second) refl
status_plain pcc regs (status.Trapped trap) first second = rw (decimal_plain trap.cause, decimal_plain trap.reg, first, second) refl

harts_plain : (origins : Origins) (number : ℕ) (harts : List HartState) → items_marked (items_of (harts_from origins number harts)) ≡ false
unfolding harts_from hart_data
harts_plain origins number [] = refl
harts_plain origins number (hart ∷ rest) =
    both (marked (hart_data origins number hart)) (items_marked (items_of (harts_from origins (number + 1) rest)))
    (status_plain (named_data (origin_of origins number Pcc hart.pcc)) (object (put_registers origins number hart 1 31 no_members)) hart.status
    (named_plain (origin_of origins number Pcc hart.pcc)) (registers_plain origins number hart 1 31 no_members refl))
    (harts_plain origins (number + 1) rest)

granules_plain : (origins : Origins) (from : ℕ) (granules : List CapValue) (members : Members) → ArePlain members
    → ArePlain (put_granules origins from granules members)
unfolding put_granules
granules_plain origins from [] members others = others
granules_plain origins from (v ∷ rest) members others =
    granules_plain origins (from + 1) rest _
    (value_put (hex_text 16 (address_of_granule from)) (origin_of origins 0 (Granule from) v) members (hex_plain 16 (address_of_granule from)) others)

pub state_plain : (origins : Origins) (state : MachineState) → has_mark (compact_text (state_data origins state)) ≡ false
unfolding state_data
state_plain origins state =
    text_plain (state_data origins state)
    (rw (harts_plain origins 0 state.harts, granules_plain origins 0 state.memory no_members refl) refl)
