-- Ends by their numbers.
use Rattle.std.proofs.Common.{◌≡◌, ℕ, ◌+◌, ◌<◌, ◌≤◌, List, ◌++◌, length, map, drop, get_or, ap, sym, ◌∙◌, arith, append_assoc, Result, OnOk}
use Rattle.std.specs.Prelude.{Some, slice_get}
use Rattle.std.proofs.lemmas.List.{length-map}
use Rattle.std.proofs.lemmas.Option.{same_Some, slice_get_within, get_or_from_slice_get}
use Rattle.cheri_model.specs.runs.Machine.{MachineState}
use Rattle.report_lines.specs.Texts.{numbered}
use Rattle.report_lines.proofs.Items.{numbered_step, numbered_end}
use Rattle.sample_tallies.specs.Tables.{Entry}
use Rattle.sample_tallies.specs.declared.seen.Seen.{Seen}
use Rattle.sample_tallies.proofs.OrderLemmas.{picked_at}

abbrev pub ArePicked : List (Entry MachineState) → List ℕ → List (Entry MachineState) → Type 0
ArePicked table order ends = map (slice_get table) order ≡ map (λ (e : Entry MachineState). Some e) ends

pub picked_long : (table ends : List (Entry MachineState)) (order : List ℕ) → ArePicked table order ends → length order ≡ length ends
picked_long table ends order sorted =
    sym (length-map order (slice_get table)) ∙ ap length sorted ∙ length-map ends (λ (e : Entry MachineState). Some e)

abbrev entry_with : MachineState → Seen → Entry MachineState
entry_with state seen = record { key = state; seen = seen }

pub end_step : (text : ℕ → Entry MachineState → List ℕ) (table ends : List (Entry MachineState)) (order : List ℕ) (place d : ℕ)
    (end : Entry MachineState) (state : MachineState) (seen : Seen) (before after all : List ℕ) → ArePicked table order ends
    → place < length order → slice_get table (get_or order place d) ≡ Some end → state ≡ end.key → seen ≡ end.seen
    → after ≡ before ++ text place (record { key = state; seen = seen })
    → before ++ numbered text place (drop place ends) ≡ all
    → after ++ numbered text (place + 1) (drop (place + 1) ends) ≡ all
end_step text table ends order place d end state seen before after all sorted below at key also written whole =
    let picked = picked_at table order ends place d sorted below in
    let here : end ≡ picked.0 = same_Some end picked.0 (sym at ∙ picked.2) in
    let within = slice_get_within ends place picked.0 picked.1 in
    let is : end ≡ get_or ends place end = here ∙ sym (get_or_from_slice_get ends place picked.0 end picked.1) in
    let entry : entry_with state seen ≡ end =
    ap (λ (s : MachineState). entry_with s seen) key ∙ ap (entry_with end.key) also in
    numbered_step text ends place end end before after all within is
    (written ∙ ap (λ (e : Entry MachineState). before ++ text place e) entry) whole

pub end_last : (text : ℕ → Entry MachineState → List ℕ) (table ends : List (Entry MachineState)) (order : List ℕ) (place : ℕ)
    (before all : List ℕ) → ArePicked table order ends → length order ≤ place
    → before ++ numbered text place (drop place ends) ≡ all → before ≡ all
end_last text table ends order place before all sorted past whole =
    let long = picked_long table ends order sorted in
    numbered_end text ends place before all (omega (arith, long, past)) whole

grouped : (out comma head state mid order tail : List ℕ)
    → (((((out ++ comma) ++ head) ++ state) ++ mid) ++ order) ++ tail ≡ out ++ (comma ++ (head ++ (state ++ (mid ++ (order ++ tail)))))
grouped out comma head state mid order tail = simp append_assoc

joined : (out first second third fourth fifth comma head state mid order tail : List ℕ) → first ≡ out ++ comma → second ≡ first ++ head
    → third ≡ second ++ state → fourth ≡ third ++ mid → fifth ≡ fourth ++ order
    → fifth ++ tail ≡ out ++ (comma ++ (head ++ (state ++ (mid ++ (order ++ tail)))))
joined out first second third fourth fifth comma head state mid order tail one two three four five =
    rw (five, four, three, two, one) (grouped out comma head state mid order tail)

-- the object of an outcome, part after part
pub object_written : {E : Type 0} (result : Result (Unit {0}) E) (out first second third fourth fifth last : List ℕ)
    (comma head state mid order tail : List ℕ) → first ≡ out ++ comma → second ≡ first ++ head → third ≡ second ++ state
    → fourth ≡ third ++ mid → fifth ≡ fourth ++ order → OnOk result (last ≡ fifth ++ tail)
    → OnOk result (last ≡ out ++ (comma ++ (head ++ (state ++ (mid ++ (order ++ tail))))))
object_written result out first second third fourth fifth last comma head state mid order tail one two three four five written =
    rw (joined out first second third fourth fifth comma head state mid order tail one two three four five) at written
