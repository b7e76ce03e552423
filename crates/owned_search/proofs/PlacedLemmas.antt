-- States with all that decides where their turns lead.
use Rattle.std.proofs.Common.{◌≡◌, ℕ, ◌≤◌, List, ap, sym, ◌∙◌, refl, subst, inl, inr}
use Rattle.std.specs.Prelude.{Bool, true, false, Option, Some, None, option_map, if◌then◌else◌}
use Rattle.std.proofs.lemmas.Bool.{cases_lt, le-ltb, lt-ltb}
use Rattle.std.proofs.lemmas.Option.{none-some}
use Rattle.cheri_model.specs.runs.Image.{ImageParts}
use Rattle.cheri_model.specs.runs.Machine.{MachineState}
use Rattle.explore_sights.specs.declared.sights.Sight.{Sight}
use Rattle.forgotten_runs.specs.ForgottenRuns.{forgotten_state}
use Rattle.graph_search.specs.Graphs.{LeadsTo}
use Rattle.granule_states.proofs.PlacedLemmas as granules
use Rattle.granule_states.proofs.TurnLemmas.{state_learned}
use Rattle.live_registers.specs.LiveSets.{LiveSets}
use Rattle.state_store.proofs.NumberedLemmas.{map_some, some_of}
use Rattle.owned_search.specs.Graphs.{ForgettingParts, PlacedState, Remembers, placed, placed_in, placed_turn, state_in, turn_in}
use Rattle.owned_search.specs.Nodes.{harts_in}
use Rattle.owned_search.proofs.GraphLemmas.{alike_remembers, graph_to}

-- there is no turn of a label past the harts
none_past : (g : ForgettingParts) (s : MachineState) (l : ℕ) → harts_in g ≤ l → turn_in g s l ≡ None
none_past g s l past = ap (option_map (forgotten_state g.live)) (granules.none_past g.graph s l past)

-- turns of placed states are those of states
pub placed_edges : (g : ForgettingParts) (s : MachineState) (l : ℕ) →
    placed_turn (harts_in g) (placed g s) l ≡ option_map (placed g) (turn_in g s l)
placed_edges g s l =
    let on = option_map (placed g) (turn_in g s l) in
    elim (cases_lt l (harts_in g)) [
      | inl low ↦ ap (λ (b : Bool). if b then on else None) (lt-ltb l (harts_in g) low)
      | inr past ↦
          ap (λ (b : Bool). if b then on else None) (le-ltb l (harts_in g) past)
          ∙ sym (ap (option_map (placed g)) (none_past g s l past))
    ]

-- a row that has a meaning has a state
pub state_of_placed : (g : ForgettingParts) (row : List ℕ) (p : PlacedState) → placed_in g row ≡ Some p →
    state_in g row ≡ Some p.state
state_of_placed g row p is =
    let s = map_some (placed g) (state_in g row) p is in
    s.1 ∙ ap (λ (q : PlacedState). Some q.state) s.2

placed_same : (g h : ForgettingParts) → Remembers g h → (s : MachineState) → placed h s ≡ placed g s
placed_same g h remembers s =
    graph_to g.graph.graph.image g.graph.sight g.live g.graph.shared h (alike_remembers g h remembers)
    (λ (i : ImageParts) (x : Sight) (l : LiveSets) (bs : List Bool). record {
      image = i;
      sight = x;
      live = l;
      shared = bs;
      state = s;
    })

pub placed_kept : (g h : ForgettingParts) → Remembers g h → (row : List ℕ) (p : PlacedState) → placed_in g row ≡ Some p →
    placed_in h row ≡ Some p
placed_kept g h remembers row p is =
    let s = map_some (placed g) (state_in g row) p is in
    ap (option_map (placed h)) (state_learned g.graph h.graph remembers.graph row s.0 s.1)
    ∙ ap (λ (q : PlacedState). Some q) (placed_same g h remembers s.0 ∙ s.2)

led_on : (g h : ForgettingParts) → Remembers g h → (to : List ℕ) (leads : Bool) (end : Option MachineState) →
    LeadsTo (state_in h) leads to end → LeadsTo (placed_in h) leads to (option_map (placed g) end)
led_on g h remembers to true None leading = let t = some_of {A = MachineState} None leading.0 in absurd (none-some t.0 t.1)
led_on g h remembers to true (Some t) leading =
    (refl, ap (option_map (placed h)) leading.1 ∙ ap (λ (q : PlacedState). Some q) (placed_same g h remembers t))
led_on g h remembers to false end leading = ap (option_map (placed g)) leading

-- where a turn led
pub placed_leads : (g h : ForgettingParts) → Remembers g h → (row to : List ℕ) (l : ℕ) (leads : Bool) (p : PlacedState) →
    placed_in g row ≡ Some p →
    ((s : MachineState) → state_in g row ≡ Some s → LeadsTo (state_in h) leads to (turn_in g s l)) →
    LeadsTo (placed_in h) leads to (placed_turn (harts_in g) p l)
placed_leads g h remembers row to l leads p is value =
    let s = map_some (placed g) (state_in g row) p is in
    let leading = led_on g h remembers to leads (turn_in g s.0 l) (value s.0 s.1) in
    subst (λ (q : PlacedState). LeadsTo (placed_in h) leads to (placed_turn (harts_in g) q l)) s.2
    (subst (λ (o : Option PlacedState). LeadsTo (placed_in h) leads to o) (sym (placed_edges g s.0 l)) leading)
