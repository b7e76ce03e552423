-- Facts in JSON have no float.
use Rattle.std.proofs.Common.{◌≡◌, ℕ, List, [], ◌∷◌, codes, false, Option, Some, None, refl}
use Rattle.std.specs.Prelude.{is_some}
use Rattle.serde_json.specs.Data.{Data, object, string, Members, no_members, put}
use Rattle.serde_json.specs.Written.{has_float, members_have_float}
use Rattle.cheri_model.specs.declared.operation.Event.{Event}
use Rattle.cheri_model.specs.declared.operation.Event.TheVariants as event
use Rattle.report_lines.specs.EventData.{event_members}
use Rattle.report_lines.specs.ValueData.{count, value_members}
use Rattle.report_lines.proofs.JsonLemmas.{put_no_float, value_no_float, event_no_float, image_no_float}
use Rattle.origins.specs.declared.place.Place.{Place}
use Rattle.facts.specs.declared.step_facts.NamedValue.{NamedValue}
use Rattle.facts.specs.declared.step_facts.UpToTwo.{UpToTwo}
use Rattle.facts.specs.declared.step_facts.UpToTwo.TheVariants.{Zero, One, Two}
use Rattle.facts.specs.declared.step_facts.Fetched.{Fetched}
use Rattle.facts.specs.declared.step_facts.StepFacts.{StepFacts}
use Rattle.explanations.specs.InstructionLines.{LineParts, source_in, source_of}
use Rattle.explanations.specs.Names.{swept_name}
use Rattle.explanations.specs.FactData.{spot_key, put_any, named_data, put_named, place_data, put_names, origin_data, extent_data, cleared_data, instruction_data, line_data, fetched_source, why_data, step_data, put_swept, put_clears, sweep_data}

-- no map says what an instruction comes from
none_in : (sources : Option (List (List ℕ))) (number : ℕ) → is_some sources ≡ false → source_in sources number ≡ None
none_in (Some sources) number none = absurd cc
none_in None number none = refl

pub no_source : (lines : LineParts) (fetched : Option Fetched) → is_some lines.sources ≡ false → fetched_source lines fetched ≡ None
unfolding source_of
no_source lines (Some fetched) none = none_in lines.sources fetched.number none
no_source lines None none = refl

abbrev AreFloatless : Members → Type 0
AreFloatless members = members_have_float members ≡ false

any : {X : Type 0} (name : List ℕ) (data_of : X → Data) (o : Option X) (members : Members)
    → ((x : X) → has_float (data_of x) ≡ false) → AreFloatless members → AreFloatless (put_any name data_of o members)
any name data_of None members each others = others
any name data_of (Some x) members each others = put_no_float name (data_of x) members (each x) others

pub named_no_float : (named : NamedValue) → has_float (named_data named) ≡ false
unfolding named_data
named_no_float named = any (codes "from") origin_data named.origin (value_members named.value) (λ x. refl) (value_no_float named.value)

one : (named : NamedValue) (members : Members) → AreFloatless members → AreFloatless (put_named named members)
one named members others = put_no_float (spot_key named.name) (named_data named) members (named_no_float named) others

names : (name : List ℕ) (named : UpToTwo NamedValue) (members : Members) → AreFloatless members
    → AreFloatless (put_names name named members)
names name Zero members others = others
names name (One x) members others = put_no_float name (object (put_named x no_members)) members (one x no_members refl) others
names name (Two x y) members others =
    put_no_float name (object (put_named y (put_named x no_members))) members (one y (put_named x no_members) (one x no_members refl)) others

pub step_no_float : (lines : LineParts) (number : ℕ) (facts : StepFacts) → has_float (step_data lines number facts) ≡ false
unfolding step_data
step_no_float lines number facts =
    let m0 : Members = event_members (event.Step facts.entry) in
    let m1 : Members = put_any (codes "at") extent_data facts.at m0 in
    let m2 : Members = put_any (codes "clears") cleared_data facts.clears m1 in
    let m3 : Members = put_any (codes "finds") place_data facts.finds m2 in
    let m4 : Members = put_any (codes "instruction") instruction_data facts.fetched m3 in
    let m5 : Members = put_any (codes "leaves") place_data facts.leaves m4 in
    let m6 : Members = put_any (codes "line") (line_data lines) facts.fetched m5 in
    let m7 : Members = put (codes "number") (count number) m6 in
    let m8 : Members = put_names (codes "reads") facts.reads m7 in
    let m9 : Members = put_names (codes "sets") facts.sets m8 in
    let m10 : Members = put_any (codes "source") (λ source. string source) (fetched_source lines facts.fetched) m9 in
    any (codes "why") why_data facts.traps m10 (λ x. refl)
    (any (codes "source") (λ source. string source) (fetched_source lines facts.fetched) m9 (λ x. refl)
    (names (codes "sets") facts.sets m8
    (names (codes "reads") facts.reads m7
    (put_no_float (codes "number") (count number) m6 refl
    (any (codes "line") (line_data lines) facts.fetched m5 (λ x. refl)
    (any (codes "leaves") place_data facts.leaves m4 (λ x. one x no_members refl)
    (any (codes "instruction") instruction_data facts.fetched m3 (λ x. refl)
    (any (codes "finds") place_data facts.finds m2 (λ x. one x no_members refl)
    (any (codes "clears") cleared_data facts.clears m1 (λ x. refl)
    (any (codes "at") extent_data facts.at m0 (λ x. refl)
    (event_no_float (event.Step facts.entry))))))))))))

swept : (places : List Place) (members : Members) → AreFloatless members → AreFloatless (put_swept places members)
unfolding put_swept
swept [] members others = others
swept (place ∷ places) members others =
    swept places (put (swept_name place) (string (codes "swept")) members) (put_no_float (swept_name place) (string (codes "swept")) members refl others)

clears : (places : List Place) (members : Members) → AreFloatless members → AreFloatless (put_clears places members)
clears [] members others = others
clears (place ∷ places) members others =
    put_no_float (codes "clears") (object (put_swept (place ∷ places) no_members)) members (swept (place ∷ places) no_members refl) others

pub sweep_no_float : (number : ℕ) (e : Event) (places : List Place) → has_float (sweep_data number e places) ≡ false
unfolding sweep_data
sweep_no_float number e places =
    clears places (put (codes "number") (count number) (event_members e))
    (put_no_float (codes "number") (count number) (event_members e) refl (event_no_float e))

pub ruleset floatless = (named_no_float, step_no_float, sweep_no_float, image_no_float)
