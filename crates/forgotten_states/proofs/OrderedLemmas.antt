-- Rows of states whose harts are put in order.
use Rattle.std.proofs.Common.{◌≡◌, ℕ, ◌≤◌, List, length, get_or, arith, ap, sym, ◌∙◌, subst}
use Rattle.std.specs.Prelude.{Bool, Option, Some, IsSome, true, option_map}
use Rattle.cheri_model.specs.runs.Machine.{MachineState}
use Rattle.graph_search.specs.Graphs.{LeadsTo}
use Rattle.hart_order.specs.Arrangements.{arranged, arranged_state, place_in}
use Rattle.hart_order.proofs.PlaceLemmas.{arranged_places}
use Rattle.state_store.specs.Stores.{Stored, state_of}
use Rattle.state_store.proofs.NumberedLemmas.{some_of}
use Rattle.states.specs.Graphs.{GraphParts, state_in}
use Rattle.states.proofs.NodeLemmas.{is_some, node_of, state_made}
use Rattle.forgotten_states.specs.Graphs.{AreMoved}

-- a row that has a state has one in the store, and at most 9 numbers
pub stored : (g : GraphParts) (store : Stored) (row : List ℕ) (s : MachineState) → store ≡ g.store → state_in g row ≡ Some s →
    IsSome (state_of store row)
stored g store row s same is =
    is_some (state_of store row) s (ap (λ (st : Stored). state_of st row) same ∙ (node_of g row s is).state)

pub short : (g : GraphParts) (row : List ℕ) (s : MachineState) → state_in g row ≡ Some s → length g.image.harts ≤ 8 →
    length row ≤ 9
short g row s is few = let width = (node_of g row s is).width in omega arith

pub places_moved : (groups stood places : List ℕ) (s : MachineState) → length stood ≡ length s.harts →
    places ≡ (arranged groups (length s.harts) (record { harts = s.harts; places = stood })).places →
    AreMoved groups s stood places
unfolding place_in
places_moved groups stood places s even is i =
    ap (λ (ps : List ℕ). get_or ps i i) is ∙ arranged_places groups s.harts stood even i

module _ (g : GraphParts) (store : Stored) (groups also row : List ℕ) (s : MachineState) (same : store ≡ g.store)
    (is : state_in g row ≡ Some s) (alike : groups ≡ also) where
  in_store : state_of store row ≡ Some s
  in_store = ap (λ (st : Stored). state_of st row) same ∙ (node_of g row s is).state

  -- the row of the state whose harts were put in order
  pub in_order : (after : List ℕ) → length after ≡ length row →
      ((t : MachineState) → state_of store row ≡ Some t → state_of store after ≡ Some (arranged_state groups t)) →
      state_in g after ≡ Some (arranged_state also s)
  in_order after size ordered =
      state_made g after (arranged_state also s) (size ∙ (node_of g row s is).width)
      (ap (λ (st : Stored). state_of st after) (sym same)
      ∙ (ordered s in_store ∙ ap (λ (gs : List ℕ). Some (arranged_state gs s)) alike))

  -- and their places
  pub places_in_order : (stood places : List ℕ) → length stood ≡ length g.image.harts →
      ((t : MachineState) → state_of store row ≡ Some t →
      places ≡ (arranged groups (length t.harts) (record { harts = t.harts; places = stood })).places) →
      AreMoved also s stood places
  places_in_order stood places even ordered =
      subst (λ (gs : List ℕ). AreMoved gs s stood places) alike
      (places_moved groups stood places s (even ∙ sym (node_of g row s is).count) (ordered s in_store))

-- where a turn led
pub turned : (meaning : List ℕ → Option MachineState) (leads : Bool) (row : List ℕ) (end : Option MachineState) → leads ≡ true →
    LeadsTo meaning leads row end → (t : MachineState) × (end ≡ Some t) × (meaning row ≡ Some t)
turned meaning leads row end holds leading =
    let there : LeadsTo meaning true row end = subst (λ (b : Bool). LeadsTo meaning b row end) holds leading in
    let t = some_of end there.0 in
    (t.0, t.1, there.1 ∙ t.1)

pub ordered_leads : (choose : MachineState → MachineState) (end : Option MachineState) (t : MachineState)
    (meant : Option MachineState) → end ≡ Some t → meant ≡ Some (choose t) →
    IsSome (option_map choose end) × (meant ≡ option_map choose end)
ordered_leads choose end t meant leads is =
    let chosen : option_map choose end ≡ Some (choose t) = ap (option_map choose) leads in
    (is_some (option_map choose end) (choose t) chosen, is ∙ sym chosen)
