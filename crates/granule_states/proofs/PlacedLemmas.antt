-- States with all that decides where their turns lead.
use Rattle.std.proofs.Common.{◌≡◌, ℕ, ◌+◌, ◌<◌, ◌≤◌, List, [], length, arith, ap, sym, ◌∙◌, refl, subst, inl, inr}
use Rattle.std.specs.Prelude.{Bool, true, false, Option, Some, None, IsSome, option_map, if◌then◌else◌}
use Rattle.std.proofs.lemmas.Bool.{cases_lt, le-ltb, lt-ltb}
use Rattle.std.proofs.lemmas.Option.{none-some}
use Rattle.cheri_model.specs.runs.Image.{ImageParts}
use Rattle.cheri_model.specs.runs.Machine.{MachineState}
use Rattle.explore_sights.specs.declared.sights.Sight.{Sight}
use Rattle.explore_turns.specs.declared.quiet.TheConstants.{MAX_QUIET_STEPS}
use Rattle.graph_search.specs.Graphs.{LeadsTo}
use Rattle.own_granules.specs.Rests.{rest_after}
use Rattle.schedules.proofs.WalkLemmas.{next_beyond}
use Rattle.state_store.proofs.NumberedLemmas.{map_some, some_of}
use Rattle.states.proofs.NodeLemmas.{is_some}
use Rattle.granule_states.specs.Graphs.{GranuleParts, Learns, Placed, placed, placed_in, placed_turn, quiet_in, state_in, step_in, turn_in}
use Rattle.granule_states.proofs.TurnLemmas.{state_learned}

-- there is no turn of a label past the harts
pub none_past : (g : GranuleParts) (s : MachineState) (l : ℕ) → length g.graph.image.harts ≤ l → turn_in g s l ≡ None
none_past g s l past =
    let beyond : length g.graph.image.harts + 0 ≤ l = omega arith in
    ap (option_map (rest_after (step_in g) (quiet_in g) MAX_QUIET_STEPS (length g.graph.image.harts) l))
    (next_beyond g.graph.image [] s l beyond)

-- turns of placed states are those of states
pub placed_edges : (g : GranuleParts) (s : MachineState) (l : ℕ) →
    placed_turn (length g.graph.image.harts) (placed g s) l ≡ option_map (placed g) (turn_in g s l)
placed_edges g s l =
    let on = option_map (placed g) (turn_in g s l) in
    elim (cases_lt l (length g.graph.image.harts)) [
      | inl low ↦
          ap (λ (b : Bool). if b then on else None) (lt-ltb l (length g.graph.image.harts) low)
      | inr past ↦
          ap (λ (b : Bool). if b then on else None) (le-ltb l (length g.graph.image.harts) past)
          ∙ sym (ap (option_map (placed g)) (none_past g s l past))
    ]

-- a row that has a meaning has a state
pub row_of : (g : GranuleParts) (row : List ℕ) → IsSome (placed_in g row) → IsSome (state_in g row)
row_of g row some =
    let p = some_of (placed_in g row) some in
    let s = map_some (placed g) (state_in g row) p.0 p.1 in
    is_some (state_in g row) s.0 s.1

pub state_of_placed : (g : GranuleParts) (row : List ℕ) (p : Placed) → placed_in g row ≡ Some p → state_in g row ≡ Some p.state
state_of_placed g row p is =
    let s = map_some (placed g) (state_in g row) p is in
    s.1 ∙ ap (λ (q : Placed). Some q.state) s.2

placed_same : (g h : GranuleParts) → Learns g h → (s : MachineState) → placed h s ≡ placed g s
placed_same g h learns s =
    ap (λ (i : ImageParts). record { image = i; sight = h.sight; shared = h.shared; state = s }) learns.graph.image
    ∙ (ap (λ (x : Sight). record { image = g.graph.image; sight = x; shared = h.shared; state = s }) learns.sight
    ∙ ap (λ (bs : List Bool). record { image = g.graph.image; sight = g.sight; shared = bs; state = s }) learns.shared)

pub placed_kept : (g h : GranuleParts) → Learns g h → (row : List ℕ) (p : Placed) → placed_in g row ≡ Some p → placed_in h row ≡ Some p
placed_kept g h learns row p is =
    let s = map_some (placed g) (state_in g row) p is in
    ap (option_map (placed h)) (state_learned g h learns row s.0 s.1)
    ∙ ap (λ (q : Placed). Some q) (placed_same g h learns s.0 ∙ s.2)

led_on : (g h : GranuleParts) → Learns g h → (to : List ℕ) (leads : Bool) (end : Option MachineState) →
    LeadsTo (state_in h) leads to end → LeadsTo (placed_in h) leads to (option_map (placed g) end)
led_on g h learns to true None leading = let t = some_of {A = MachineState} None leading.0 in absurd (none-some t.0 t.1)
led_on g h learns to true (Some t) leading =
    (refl, ap (option_map (placed h)) leading.1 ∙ ap (λ (q : Placed). Some q) (placed_same g h learns t))
led_on g h learns to false end leading = ap (option_map (placed g)) leading

-- where a turn led
pub placed_leads : (g h : GranuleParts) → Learns g h → (row to : List ℕ) (l : ℕ) (leads : Bool) (p : Placed) →
    l < length g.graph.image.harts → placed_in g row ≡ Some p →
    ((s : MachineState) → state_in g row ≡ Some s → LeadsTo (state_in h) leads to (turn_in g s l)) →
    LeadsTo (placed_in h) leads to (placed_turn (length g.graph.image.harts) p l)
placed_leads g h learns row to l leads p low is value =
    let s = map_some (placed g) (state_in g row) p is in
    let leading = led_on g h learns to leads (turn_in g s.0 l) (value s.0 s.1) in
    subst (λ (q : Placed). LeadsTo (placed_in h) leads to (placed_turn (length g.graph.image.harts) q l)) s.2
    (subst (λ (o : Option Placed). LeadsTo (placed_in h) leads to o) (sym (placed_edges g s.0 l)) leading)
