-- Facts in JSON. What doesn't apply is left out; the keys of an object are in byte order.
use Rattle.std.specs.Prelude.{ℕ, List, [], ◌∷◌, codes, Option, Some, None}
use Rattle.serde_json.specs.Data.{Data, string, object}
use Rattle.serde_json.specs.Data.{Members, no_members, put}
use Rattle.cheri_model.specs.declared.operation.Event.{Event}
use Rattle.cheri_model.specs.declared.operation.Event.TheVariants as event
use Rattle.cheri_model.specs.instructions.Form.{form_of}
use Rattle.notation.specs.Instructions.{form_text}
use Rattle.report_lines.specs.Names.{address_of_granule}
use Rattle.report_lines.specs.ValueData.{count, value_members}
use Rattle.report_lines.specs.EventData.{event_members}
use Rattle.origins.specs.declared.place.Place.{Place}
use Rattle.origins.specs.declared.place.Spot.{Spot}
use Rattle.origins.specs.declared.place.Spot.TheVariants.{Pcc, Register, Granule}
use Rattle.facts.specs.declared.step_facts.NamedValue.{NamedValue}
use Rattle.facts.specs.declared.step_facts.UpToTwo.{UpToTwo}
use Rattle.facts.specs.declared.step_facts.UpToTwo.TheVariants.{Zero, One, Two}
use Rattle.facts.specs.declared.step_facts.Extent.{Extent}
use Rattle.facts.specs.declared.step_facts.Fetched.{Fetched}
use Rattle.facts.specs.declared.step_facts.Trapped.{Trapped}
use Rattle.facts.specs.declared.step_facts.Cleared.{Cleared}
use Rattle.facts.specs.declared.step_facts.StepFacts.{StepFacts}
use Rattle.explanations.specs.Names.{spot_name, swept_name, origin_name}
use Rattle.explanations.specs.Reasons.{h64, why_text, trap_why_text}
use Rattle.explanations.specs.InstructionLines.{LineParts, line_of, source_of}

-- the members with one more, if there is one
abbrev pub put_any : {X : Type 0} → List ℕ → (X → Data) → Option X → Members → Members
put_any name data_of None members = members
put_any name data_of (Some x) members = put name (data_of x) members

-- ---- values

abbrev pub origin_data : Place → Data
origin_data origin = string (origin_name origin)

-- a value, and where it is tagged its origin
unfoldable pub named_data : NamedValue → Data
named_data named =
    object (put_any (codes "from") origin_data named.origin (value_members named.value))

-- a register by its name, and a granule by its address
abbrev pub spot_key : Spot → List ℕ
spot_key Pcc = codes "pcc"
spot_key (Register number) = spot_name (Register number)
spot_key (Granule number) = h64 (address_of_granule number)

abbrev pub put_named : NamedValue → Members → Members
put_named named members = put (spot_key named.name) (named_data named) members

abbrev pub place_data : NamedValue → Data
place_data named = object (put_named named no_members)

-- ---- members of a step

abbrev pub put_names : List ℕ → UpToTwo NamedValue → Members → Members
put_names name Zero members = members
put_names name (One x) members = put name (object (put_named x no_members)) members
put_names name (Two x y) members =
    put name (object (put_named y (put_named x no_members))) members

abbrev pub extent_data : Extent → Data
extent_data extent =
    object (put (codes "bytes") (count extent.bytes)
    (put (codes "address") (string (h64 extent.address)) no_members))

abbrev pub cleared_data : Cleared → Data
cleared_data cleared =
    object (put (spot_name cleared.name) (string (why_text cleared.why)) no_members)

abbrev pub instruction_data : Fetched → Data
instruction_data fetched = string (form_text (form_of fetched.instr))

abbrev pub line_data : LineParts → Fetched → Data
line_data lines fetched = count (line_of lines fetched.number)

-- what an instruction comes from, if a map says so
abbrev pub fetched_source : LineParts → Option Fetched → Option (List ℕ)
fetched_source lines (Some fetched) = source_of lines fetched.number
fetched_source lines None = None

abbrev pub why_data : Trapped → Data
why_data trapped = string (trap_why_text trapped.why)

-- a step: the members of the report's entry, its number, and its facts
unfoldable pub step_data : LineParts → ℕ → StepFacts → Data
step_data lines number facts = object
    (put_any (codes "why") why_data facts.traps
    (put_any (codes "source") (λ source. string source) (fetched_source lines facts.fetched)
    (put_names (codes "sets") facts.sets
    (put_names (codes "reads") facts.reads
    (put (codes "number") (count number)
    (put_any (codes "line") (line_data lines) facts.fetched
    (put_any (codes "leaves") place_data facts.leaves
    (put_any (codes "instruction") instruction_data facts.fetched
    (put_any (codes "finds") place_data facts.finds
    (put_any (codes "clears") cleared_data facts.clears
    (put_any (codes "at") extent_data facts.at
    (event_members (event.Step facts.entry)))))))))))))

-- ---- sweeps

-- the members with each place that a sweep cleared
unfoldable pub put_swept : List Place → Members → Members
put_swept [] members = members
put_swept (place ∷ places) members =
    put_swept places (put (swept_name place) (string (codes "swept")) members)

abbrev pub put_clears : List Place → Members → Members
put_clears [] members = members
put_clears (place ∷ places) members =
    put (codes "clears") (object (put_swept (place ∷ places) no_members)) members

unfoldable pub sweep_data : ℕ → Event → List Place → Data
sweep_data number swept places =
    object (put_clears places (put (codes "number") (count number) (event_members swept)))
