-- An answer in JSON is its parts.
use Rattle.std.proofs.Common.{◌≡◌, ℕ, ◌+◌, true, List, [], ◌∷◌, ◌++◌, codes, decimal, map, refl, sym, ap, ◌∙◌, append_assoc}
use Rattle.std.specs.Prelude.{nat_lt, Option, Some, None}
use Rattle.serde_json.proofs.OnLiterals.{serde_json_on_literals}
use Rattle.serde_json.specs.Data.{Data, string, array, object, Members, no_members, member}
use Rattle.serde_json.specs.View.{items_of}
use Rattle.serde_json.specs.Written.{comma_if, compact_text, members_text}
use Rattle.cheri_model.specs.runs.Machine.{MachineState}
use Rattle.conditions.specs.Items.{ItemList}
use Rattle.report_lines.specs.EventData.{image_data}
use Rattle.report_lines.specs.JsonText.{item_text}
use Rattle.report_lines.specs.Texts.{numbered}
use Rattle.report_lines.specs.ValueData.{count}
use Rattle.report_lines.proofs.JsonLists.{list_text}
use Rattle.reports.specs.Json.{harts_data, memory_data}
use Rattle.sample_draws.specs.Drawings.{DrawingParts}
use Rattle.sample_tallies.specs.declared.seen.TrapPlace.{TrapPlace}
use Rattle.sample_tallies.specs.Sums.{traps_in_order, ends_in_order}
use Rattle.sample_tallies.specs.Tables.{Entry}
use Rattle.sample_checks.specs.declared.told.PropertySeen.{PropertySeen}
use Rattle.sample_texts.specs.declared.spans.Span.{Span}
use Rattle.sample_texts.specs.PropertyTexts.{property_data}
use Rattle.sample_texts.specs.SampleData.{depth_member, drawn_data, items_member, list_member, outcome_data, outcomes_member, properties_member, row_data, runs_data, sample_data, sample_text, shown_member, span_data, sweep_data, trap_data}
use Rattle.sample_texts.specs.SampleJson.{depth_part, drawn_json, outcome_json, items_json, json_head, numbers_json, outcomes_json, properties_json, sample_json, sample_whole, shown_json, traps_json}
use Rattle.sample_texts.specs.SampleParts.{Drawn, SampledParts, drawn_of}
use Rattle.sample_texts.specs.ShownRows.{shown_rows}
use Rattle.shown_states.specs.StateTexts.{state_members}
use Rattle.shown_states.specs.declared.form.Format.{Format}
use Rattle.shown_states.specs.declared.form.Format.TheVariants.{Text, Json}

-- ---- how orders are drawn

drawn_object : (depth : Option ℕ) (length seed : ℕ) (a : Data)
    → compact_text (object (depth_member depth (member (codes "length") (count length) (member (codes "seed") (count seed)
    (member (codes "sweeps") a no_members)))))
    ≡ codes "{" ++ (depth_part depth ++ (codes "\"length\":" ++ (decimal length ++ (codes ",\"seed\":" ++ (decimal seed
    ++ (codes ",\"sweeps\":" ++ (compact_text a ++ codes "}")))))))
unfolding serde_json_on_literals
drawn_object None length seed a = refl
drawn_object (Some depth) length seed a = simp append_assoc

drawn_closed : (a b c d e f g items : List ℕ)
    → a ++ (b ++ (c ++ (d ++ (e ++ (f ++ (g ++ ((91 ∷ (items ++ 93 ∷ [])) ++ codes "}")))))))
    ≡ a ++ (b ++ (c ++ (d ++ (e ++ (f ++ ((g ++ 91 ∷ []) ++ (items ++ codes "]}")))))))
drawn_closed a b c d e f g items = simp append_assoc

pub drawn_is : (drawing : DrawingParts) → compact_text (drawn_data drawing) ≡ drawn_json drawing
unfolding drawn_data drawn_json
drawn_is drawing =
    drawn_object drawing.depth drawing.length drawing.seed (array (items_of (map sweep_data drawing.sweeps)))
    ∙ ap (λ (l : List ℕ). codes "{" ++ (depth_part drawing.depth ++ (codes "\"length\":" ++ (decimal drawing.length
    ++ (codes ",\"seed\":" ++ (decimal drawing.seed ++ (codes ",\"sweeps\":" ++ (l ++ codes "}"))))))))
    (list_text sweep_data drawing.sweeps)
    ∙ drawn_closed (codes "{") (depth_part drawing.depth) (codes "\"length\":") (decimal drawing.length) (codes ",\"seed\":")
    (decimal drawing.seed) (codes ",\"sweeps\":") (numbered (item_text sweep_data) 0 drawing.sweeps)

-- ---- an outcome

outcome_object : (first runs : ℕ) (harts memory : Data) (order : List ℕ)
    → compact_text (object (member (codes "first") (count first) (member (codes "harts") harts (member (codes "mem") memory
    (member (codes "order") (string order) (member (codes "runs") (count runs) no_members))))))
    ≡ codes "{\"first\":" ++ (decimal first ++ (codes ",\"harts\":" ++ (compact_text harts ++ (codes ",\"mem\":" ++ (compact_text memory
    ++ (codes ",\"order\":" ++ (compact_text (string order) ++ (codes ",\"runs\":" ++ (decimal runs ++ codes "}")))))))))
unfolding serde_json_on_literals
outcome_object first runs harts memory order = refl

state_inside : (a first b harts m memory rest : List ℕ)
    → a ++ (first ++ ((44 ∷ b) ++ (harts ++ (m ++ (memory ++ rest)))))
    ≡ (a ++ (first ++ 44 ∷ [])) ++ (((b ++ harts) ++ (m ++ memory)) ++ rest)
state_inside a first b harts m memory rest = simp append_assoc

outcome_is : (drawn : Drawn) (place : ℕ) (end : Entry MachineState)
    → outcome_json drawn place end ≡ item_text (outcome_data drawn) place end
unfolding outcome_data outcome_json item_text state_members
outcome_is drawn place end =
    ap (λ (l : List ℕ). comma_if (nat_lt 0 place) ++ l)
    (sym (outcome_object end.seen.first end.seen.runs (harts_data end.key.harts) (memory_data end.key.memory) _
    ∙ state_inside (codes "{\"first\":") (decimal end.seen.first) (codes "\"harts\":") (compact_text (harts_data end.key.harts))
    (codes ",\"mem\":") (compact_text (memory_data end.key.memory)) _))

numbered_same : {X : Type 0} (text other : ℕ → X → List ℕ) → ((n : ℕ) (x : X) → text n x ≡ other n x) → (n : ℕ) (xs : List X)
    → numbered text n xs ≡ numbered other n xs
unfolding numbered
numbered_same text other each n [] = refl
numbered_same text other each n (x ∷ xs) =
    ap (λ (l : List ℕ). l ++ numbered text (n + 1) xs) (each n x)
    ∙ ap (λ (l : List ℕ). other n x ++ l) (numbered_same text other each (n + 1) xs)

-- ---- the members, one after another

-- the text of the members that are left, the end of the object, and that of the line
abbrev rest_of : Members → List ℕ
rest_of members = members_text true members ++ 10 ∷ []

list_closed : (head items rest : List ℕ)
    → (head ++ ((91 ∷ (items ++ 93 ∷ [])) ++ rest)) ++ 10 ∷ [] ≡ ((head ++ 91 ∷ []) ++ (items ++ codes "]")) ++ (rest ++ 10 ∷ [])
list_closed head items rest = simp append_assoc

-- a list under a name whose text this is
listed : {X : Type 0} (head : List ℕ) (data_of : X → Data) (xs : List X) (rest : List ℕ)
    → (head ++ (compact_text (array (items_of (map data_of xs))) ++ rest)) ++ 10 ∷ []
    ≡ ((head ++ 91 ∷ []) ++ (numbered (item_text data_of) 0 xs ++ codes "]")) ++ (rest ++ 10 ∷ [])
listed head data_of xs rest =
    ap (λ (l : List ℕ). (head ++ (l ++ rest)) ++ 10 ∷ []) (list_text data_of xs)
    ∙ list_closed head (numbered (item_text data_of) 0 xs) rest

items_are : (items : Option ItemList) (rest : Members) → rest_of (items_member items rest) ≡ items_json items ++ rest_of rest
unfolding serde_json_on_literals
items_are None rest = refl
items_are (Some items) rest = listed (codes ",\"items\":") string items.names (members_text true rest)

longest_closed : (a n rest : List ℕ) → (a ++ (n ++ rest)) ++ 10 ∷ [] ≡ a ++ (n ++ (rest ++ 10 ∷ []))
longest_closed a n rest = simp append_assoc

number_joined : (a n b items rest : List ℕ)
    → a ++ (n ++ (((b ++ 91 ∷ []) ++ (items ++ codes "]")) ++ rest)) ≡ (a ++ (n ++ ((b ++ 91 ∷ []) ++ (items ++ codes "]")))) ++ rest
number_joined a n b items rest = simp append_assoc

numbers_are : (longest : ℕ) (numbers : List Span) (rest : Members)
    → rest_of (member (codes "longest") (count longest) (list_member (codes "numbers") span_data numbers rest))
    ≡ numbers_json longest numbers ++ rest_of rest
unfolding serde_json_on_literals numbers_json
numbers_are longest numbers rest =
    longest_closed (codes ",\"longest\":") (decimal longest) (members_text true (list_member (codes "numbers") span_data numbers rest))
    ∙ ap (λ (l : List ℕ). codes ",\"longest\":" ++ (decimal longest ++ l))
    (listed (codes ",\"numbers\":") span_data numbers (members_text true rest))
    ∙ number_joined (codes ",\"longest\":") (decimal longest) (codes ",\"numbers\":") (numbered (item_text span_data) 0 numbers)
    (rest_of rest)

outcomes_are : (s : SampledParts) (items : Option ItemList) (rest : Members)
    → rest_of (outcomes_member s items rest) ≡ outcomes_json (drawn_of s) items (ends_in_order s.sum) ++ rest_of rest
unfolding serde_json_on_literals
outcomes_are s None rest =
    listed (codes ",\"outcomes\":") (outcome_data (drawn_of s)) (ends_in_order s.sum) (members_text true rest)
    ∙ ap (λ (l : List ℕ). (codes ",\"outcomes\":[" ++ (l ++ codes "]")) ++ rest_of rest)
    (sym (numbered_same (outcome_json (drawn_of s)) (item_text (outcome_data (drawn_of s))) (outcome_is (drawn_of s)) 0 (ends_in_order s.sum)))
outcomes_are s (Some items) rest = refl

properties_are : (properties : List PropertySeen) (rest : Members)
    → rest_of (properties_member properties rest) ≡ properties_json properties ++ rest_of rest
unfolding serde_json_on_literals
properties_are [] rest = refl
properties_are (told ∷ more) rest = listed (codes ",\"properties\":") property_data (told ∷ more) (members_text true rest)

runs_are : (runs : ℕ) (rest : Members)
    → rest_of (member (codes "runs") (count runs) rest) ≡ codes ",\"runs\":" ++ (decimal runs ++ rest_of rest)
unfolding serde_json_on_literals
runs_are runs rest = longest_closed (codes ",\"runs\":") (decimal runs) (members_text true rest)

shown_are : (s : SampledParts) (items : Option ItemList) (rest : Members)
    → rest_of (shown_member s items rest) ≡ shown_json (drawn_of s) items (ends_in_order s.sum) ++ rest_of rest
unfolding serde_json_on_literals
shown_are s None rest = refl
shown_are s (Some items) rest =
    listed (codes ",\"shown\":") (row_data (drawn_of s) items.names) (shown_rows items.shown (ends_in_order s.sum)) (members_text true rest)

traps_closed : (head items : List ℕ) → ((head ++ 91 ∷ []) ++ (items ++ codes "]")) ++ codes "}\n" ≡ (head ++ 91 ∷ []) ++ (items ++ codes "]}\n")
traps_closed head items = simp append_assoc

traps_are : (drawn : Drawn) (traps : List (Entry TrapPlace))
    → rest_of (list_member (codes "traps") (trap_data drawn) traps no_members) ≡ traps_json drawn traps
unfolding serde_json_on_literals traps_json
traps_are drawn traps =
    listed (codes ",\"traps\":") (trap_data drawn) traps (codes "}")
    ∙ traps_closed (codes ",\"traps\":") (numbered (item_text (trap_data drawn)) 0 traps)

-- ---- the whole

head_object : (cut drawn hung image : Data) (rest : Members)
    → compact_text (object (member (codes "cut") cut (member (codes "drawn") drawn (member (codes "explore") (count 1)
    (member (codes "hung") hung (member (codes "image") image rest))))))
    ≡ codes "{\"cut\":" ++ (compact_text cut ++ (codes ",\"drawn\":" ++ (compact_text drawn ++ (codes ",\"explore\":" ++ (decimal 1
    ++ (codes ",\"hung\":" ++ (compact_text hung ++ (codes ",\"image\":" ++ (compact_text image ++ members_text true rest)))))))))
unfolding serde_json_on_literals
head_object cut drawn hung image rest = refl

head_closed : (a cut b drawn c one d hung e image rest : List ℕ)
    → (a ++ (cut ++ (b ++ (drawn ++ (c ++ (one ++ (d ++ (hung ++ (e ++ (image ++ rest)))))))))) ++ 10 ∷ []
    ≡ (a ++ (cut ++ (b ++ (drawn ++ (c ++ (one ++ (d ++ (hung ++ (e ++ image))))))))) ++ (rest ++ 10 ∷ [])
head_closed a cut b drawn c one d hung e image rest = simp append_assoc

head_is : (s : SampledParts) (rest : Members)
    → compact_text (object (member (codes "cut") (runs_data (drawn_of s) s.sum.cut) (member (codes "drawn") (drawn_data s.drawing)
    (member (codes "explore") (count 1) (member (codes "hung") (runs_data (drawn_of s) s.sum.hung)
    (member (codes "image") (image_data s.image) rest)))))) ++ 10 ∷ []
    ≡ json_head (drawn_of s) s.sum ++ rest_of rest
unfolding json_head
head_is s rest =
    ap (λ (l : List ℕ). l ++ 10 ∷ []) (head_object (runs_data (drawn_of s) s.sum.cut) (drawn_data s.drawing)
    (runs_data (drawn_of s) s.sum.hung) (image_data s.image) rest)
    ∙ head_closed (codes "{\"cut\":") (compact_text (runs_data (drawn_of s) s.sum.cut)) (codes ",\"drawn\":")
    (compact_text (drawn_data s.drawing)) (codes ",\"explore\":") (decimal 1) (codes ",\"hung\":")
    (compact_text (runs_data (drawn_of s) s.sum.hung)) (codes ",\"image\":") (compact_text (image_data s.image)) (members_text true rest)
    ∙ ap (λ (l : List ℕ). (codes "{\"cut\":" ++ (compact_text (runs_data (drawn_of s) s.sum.cut) ++ (codes ",\"drawn\":" ++ (l
    ++ (codes ",\"explore\":" ++ (decimal 1 ++ (codes ",\"hung\":" ++ (compact_text (runs_data (drawn_of s) s.sum.hung)
    ++ (codes ",\"image\":" ++ compact_text (image_data s.image)))))))))) ++ rest_of rest) (drawn_is s.drawing)

json_is : (s : SampledParts) → compact_text (sample_data s) ++ 10 ∷ [] ≡ sample_json s
unfolding sample_data sample_json
json_is s =
    let drawn = drawn_of s in
    let traps = list_member (codes "traps") (trap_data drawn) (traps_in_order s.sum) no_members in
    let shown = shown_member s s.items traps in
    let runs = member (codes "runs") (count s.sum.runs) shown in
    let properties = properties_member s.properties runs in
    let outcomes = outcomes_member s s.items properties in
    let numbers = member (codes "longest") (count s.sum.longest) (list_member (codes "numbers") span_data s.numbers outcomes) in
    head_is s (items_member s.items numbers)
    ∙ ap (λ (l : List ℕ). json_head drawn s.sum ++ l) (items_are s.items numbers
    ∙ ap (λ (l : List ℕ). items_json s.items ++ l) (numbers_are s.sum.longest s.numbers outcomes
    ∙ ap (λ (l : List ℕ). numbers_json s.sum.longest s.numbers ++ l) (outcomes_are s s.items properties
    ∙ ap (λ (l : List ℕ). outcomes_json drawn s.items (ends_in_order s.sum) ++ l) (properties_are s.properties runs
    ∙ ap (λ (l : List ℕ). properties_json s.properties ++ l) (runs_are s.sum.runs shown
    ∙ ap (λ (l : List ℕ). codes ",\"runs\":" ++ (decimal s.sum.runs ++ l)) (shown_are s s.items traps
    ∙ ap (λ (l : List ℕ). shown_json drawn s.items (ends_in_order s.sum) ++ l) (traps_are drawn (traps_in_order s.sum))))))))

pub whole_is : (format : Format) (s : SampledParts) → sample_whole format s ≡ sample_text format s
whole_is Text s = refl
whole_is Json s = sym (json_is s)
