-- That the rows which steps and sweeps write are those of the states to which edges lead.
use Rattle.std.proofs.Common.{◌≡◌, ℕ, suc, ◌+◌, ◌-◌, ◌<◌, ◌≤◌, List, [], ◌∷◌, length, map, arith, refl, ap, sym, ◌∙◌, subst, length-set, inl, inr, ◌⊎◌}
use Rattle.std.specs.Prelude.{Option, option_map, Some, None, slice_get, slice_set, slice_index_or, Bool, true, false, if◌then◌else◌}
use Rattle.std.proofs.lemmas.Bool.Decides.{nat_tests}
use Rattle.std.proofs.lemmas.Option.{slice_get-get_or}
use Rattle.cap_model.specs.values.CapValue.{CapValue}
use Rattle.cheri_model.specs.steps.Hart.{HartState}
use Rattle.cheri_model.specs.runs.Image.{ImageParts}
use Rattle.cheri_model.specs.runs.Machine.{MachineState, no_hart, is_running, may_take, state_after_one, state_after_step, swept_state}
use Rattle.cheri_model.specs.runs.Machine as machine
use Rattle.cheri_model.specs.runs.Sweeps.{is_range, swept_hart, swept_memory}
use Rattle.graph_search.specs.Graphs.{LeadsTo}
use Rattle.schedules.specs.declared.ranges.SweepRange.{SweepRange}
use Rattle.schedules.specs.Schedules.{taken, sweep_of}
use Rattle.state_store.specs.Stores.{hart_at, memory_at}
use Rattle.state_store.proofs.StoreLemmas.{memory_at_kept, hart_at_kept}
use Rattle.states.specs.declared.locals.LocalStep.{LocalStep}
use Rattle.states.specs.Locals.{touched, IsLocalStep}
use Rattle.explore_turns.specs.Turns.{rest_of}
use Rattle.states.specs.Graphs.{GraphParts, state_in, Continues, rests_in, rest_in, turn_in}
use Rattle.states.proofs.GraphLemmas.{next_of_running}
use Rattle.states.proofs.NodeLemmas.{IsNode, node_of, state_made, is_some, rests_kept}
use Rattle.states.proofs.RowLemmas.{row_with_hart, row_with_memory, partly, partly_all, partly_more, partly_none}
use Rattle.states.proofs.StepLemmas.{stepped_row, same_row, value_after, left}

leads : (meaning : List ℕ → Option MachineState) (row : List ℕ) (target : Option MachineState) (t : MachineState) →
    target ≡ Some t → meaning row ≡ Some t → LeadsTo meaning true row target
leads meaning row target t is there = (is_some target t is, there ∙ sym is)

wide : (g h : GraphParts) → Continues g h → (row : List ℕ) → length row ≡ length g.image.harts + 1 →
    length row ≡ length h.image.harts + 1
wide g h continues row width =
    subst (λ (i : ImageParts). length row ≡ length i.harts + 1) (sym continues.image) width

module _ (g h : GraphParts) (continues : Continues g h) (some : 0 < g.store.granules) (node row : List ℕ) (s : MachineState)
    (is : state_in g node ≡ Some s) (j k v : ℕ) (there : j < length g.image.harts)
    (runs : is_running (machine.hart_at s j).status ≡ true)
    (row_there : slice_get g.store.memories (slice_index_or node 0 0) ≡ Some row)
    (site : k ≡ touched g.image.program g.store.granules (machine.hart_at s j)) (value_there : slice_get row k ≡ Some v)
    (after : LocalStep) (step : IsLocalStep g.image.program (rests_in g) h.store (slice_index_or node (j + 1) 0) v after)
    (all_rest : map (rests_in g) s.harts ≡ s.harts) where
  is_node : IsNode g node s
  is_node = node_of g node s is

  target : turn_in g s j ≡ Some (rest_in g (state_after_step g.image s j))
  target =
      let count = is_node.count in
      ap (option_map (rest_in g)) (next_of_running g.image g.sweeps s j there (omega arith) runs)

  -- the granule's value stays
  pub step_leads : after.value ≡ v → LeadsTo (state_in h) true (slice_set node (j + 1) after.hart) (turn_in g s j)
  unfolding rest_of
  step_leads same =
      leads (state_in h) (slice_set node (j + 1) after.hart) (turn_in g s j) (rest_in g (state_after_step g.image s j)) target
      (state_made h (slice_set node (j + 1) after.hart) (rest_in g (state_after_step g.image s j))
      (length-set node (j + 1) after.hart ∙ wide g h continues node is_node.width)
      (same_row g.image g.store h.store continues.keeps some node row s is_node.state j (slice_index_or node (j + 1) 0)
      (slice_index_or node 0 0) k v (is_node.hart j there) is_node.memory row_there site value_there after (rests_in g) step all_rest same))

  -- the memory is that of another number
  pub step_writes : (i : GraphParts) → Continues h i → (id : ℕ) →
      ((m : List CapValue) (w : CapValue) → memory_at h.store (slice_index_or node 0 0) ≡ Some m →
      slice_get h.store.values after.value ≡ Some w → memory_at i.store id ≡ Some (slice_set m k w)) →
      LeadsTo (state_in i) true (slice_set (slice_set node (j + 1) after.hart) 0 id) (turn_in g s j)
  unfolding rest_of
  step_writes i further id numbered =
      let value = value_after g.image g.store h.store continues.keeps some node row s is_node.state j (slice_index_or node (j + 1) 0)
      (slice_index_or node 0 0) k v (is_node.hart j there) is_node.memory row_there site value_there after (rests_in g) step all_rest in
      let result = left g.image g.store h.store continues.keeps some node row s is_node.state j (slice_index_or node (j + 1) 0)
      (slice_index_or node 0 0) k v (is_node.hart j there) is_node.memory row_there site value_there after (rests_in g) step all_rest in
      leads (state_in i) (slice_set (slice_set node (j + 1) after.hart) 0 id) (turn_in g s j)
      (rest_in g (state_after_step g.image s j)) target
      (state_made i (slice_set (slice_set node (j + 1) after.hart) 0 id) (rest_in g (state_after_step g.image s j))
      (length-set (slice_set node (j + 1) after.hart) 0 id
      ∙ (length-set node (j + 1) after.hart ∙ wide h i further node (wide g h continues node is_node.width)))
      (stepped_row g.image g.store h.store continues.keeps some node row s is_node.state j (slice_index_or node (j + 1) 0)
      (slice_index_or node 0 0) k v (is_node.hart j there) is_node.memory row_there site value_there after (rests_in g) step all_rest
      i.store further.keeps id
      (numbered s.memory result (memory_at_kept g.store h.store continues.keeps (slice_index_or node 0 0) s.memory is_node.memory)
      value)))

-- a sweep of a range
pub taken_of_range : (image : ImageParts) (s : MachineState) (range : SweepRange) → is_range range.lo range.hi ≡ true →
    taken image s (Some (sweep_of range)) ≡ Some (swept_state range.lo range.hi s)
unfolding taken may_take state_after_one
taken_of_range image s range is =
    ap (λ (b : Bool). if b then Some (swept_state range.lo range.hi s) else None) is

-- and of what is none
pub taken_of_none : (image : ImageParts) (s : MachineState) (range : SweepRange) → is_range range.lo range.hi ≡ false →
    taken image s (Some (sweep_of range)) ≡ None
unfolding taken may_take state_after_one
taken_of_none image s range is =
    ap (λ (b : Bool). if b then Some (swept_state range.lo range.hi s) else None) is

-- a hart that is swept, and then at its rest
abbrev pub swept_rest : GraphParts → SweepRange → HartState → HartState
swept_rest g range h = rests_in g (swept_hart range.lo range.hi h)

-- the state whose first n harts are so
abbrev pub swept_to : GraphParts → SweepRange → ℕ → MachineState → MachineState
swept_to o range n s = record { harts = partly (swept_rest o range) n s.harts; memory = s.memory }

swept_each : (f : HartState → HartState) (range : SweepRange) (hs : List HartState) →
    map (λ (h : HartState). f (swept_hart range.lo range.hi h)) hs ≡ map f (map (swept_hart range.lo range.hi) hs)
swept_each f range [] = refl
swept_each f range (h ∷ hs) =
    ap (λ (l : List HartState). f (swept_hart range.lo range.hi h) ∷ l) (swept_each f range hs)

pub sweep_leads : (o g h : GraphParts) → Continues g h → (row : List ℕ) (s : MachineState) (range : SweepRange) (n id : ℕ) →
    state_in g row ≡ Some (swept_to o range n s) → length s.harts ≤ n → is_range range.lo range.hi ≡ true →
    memory_at h.store id ≡ Some (swept_memory range.lo range.hi s.memory) →
    LeadsTo (state_in h) true (slice_set row 0 id)
    (option_map (rest_in o) (taken o.image s (Some (sweep_of range))))
unfolding swept_state rest_of
sweep_leads o g h continues row s range n id is all good there =
    let node = node_of g row (swept_to o range n s) is in
    leads (state_in h) (slice_set row 0 id) (option_map (rest_in o) (taken o.image s (Some (sweep_of range))))
    (rest_in o (swept_state range.lo range.hi s))
    (ap (option_map (rest_in o)) (taken_of_range o.image s range good))
    (state_made h (slice_set row 0 id) (rest_in o (swept_state range.lo range.hi s))
    (length-set row 0 id ∙ wide g h continues row node.width)
    (row_with_memory g.store h.store continues.keeps row (swept_to o range n s) id (swept_memory range.lo range.hi s.memory)
    node.state there
    ∙ ap (λ (hs : List HartState). Some (record { harts = hs; memory = swept_memory range.lo range.hi s.memory }))
    (partly_all (swept_rest o range) n s.harts all ∙ swept_each (rests_in o) range s.harts)))

-- one more hart
pub sweep_more : (o g h : GraphParts) → Continues g h → (row : List ℕ) (s : MachineState) (range : SweepRange) (n id : ℕ) (hart : HartState) →
    state_in g row ≡ Some (swept_to o range n s) → slice_get s.harts n ≡ Some hart →
    hart_at h.store id ≡ Some (swept_rest o range hart) →
    state_in h (slice_set row (n + 1) id) ≡ Some (swept_to o range (n + 1) s)
sweep_more o g h continues row s range n id hart is at there =
    let node = node_of g row (swept_to o range n s) is in
    let more : suc n ≡ n + 1 = omega arith in
    state_made h (slice_set row (n + 1) id) (swept_to o range (n + 1) s)
    (length-set row (n + 1) id ∙ wide g h continues row node.width)
    (row_with_hart g.store h.store continues.keeps row (swept_to o range n s) n id (swept_rest o range hart) node.state there
    ∙ (ap (λ (hs : List HartState). Some (record { harts = hs; memory = s.memory }))
    (partly_more (swept_rest o range) n s.harts hart at)
    ∙ ap (λ (k : ℕ). Some (swept_to o range k s)) more))

-- the hart in a place of a node, in a graph that learned more
pub hart_there : (g h : GraphParts) → Continues g h → (node : List ℕ) (s : MachineState) (place : ℕ) →
    state_in g node ≡ Some s → 0 < place → place < length node →
    (slice_get s.harts (place - 1) ≡ Some (machine.hart_at s (place - 1)))
    × (hart_at h.store (slice_index_or node place 0) ≡ Some (machine.hart_at s (place - 1)))
unfolding machine.hart_at
hart_there g h continues node s place is some within =
    let n = node_of g node s is in
    let width = n.width in
    let count = n.count in
    let below : place - 1 < length g.image.harts = omega arith in
    let inside : place - 1 < length s.harts = omega arith in
    let same : place - 1 + 1 ≡ place = omega arith in (
      slice_get-get_or s.harts (place - 1) no_hart inside,
      hart_at_kept g.store h.store continues.keeps (slice_index_or node place 0) (machine.hart_at s (place - 1))
          (ap (λ (k : ℕ). hart_at g.store (slice_index_or node k 0)) (sym same) ∙ n.hart (place - 1) below),
    )

-- the hart in one more place is swept
pub sweep_on : (g h i : GraphParts) → Continues g h → Continues h i → (node row : List ℕ) (s : MachineState) (range : SweepRange)
    (place id : ℕ) → state_in g node ≡ Some s → 0 < place → place < length node →
    state_in h row ≡ Some (swept_to g range (place - 1) s) →
    ((hart : HartState) → hart_at h.store (slice_index_or node place 0) ≡ Some hart →
    hart_at i.store id ≡ Some (swept_rest h range hart)) →
    state_in i (slice_set row place id) ≡ Some (swept_to g range (place + 1 - 1) s)
sweep_on g h i first second node row s range place id is some within was numbered =
    let hart = hart_there g h first node s place is some within in
    let same : place - 1 + 1 ≡ place = omega arith in
    let after : place ≡ place + 1 - 1 = omega arith in
    let more = sweep_more g h i second row s range (place - 1) id (machine.hart_at s (place - 1)) was hart.0
    (numbered (machine.hart_at s (place - 1)) hart.1
    ∙ ap (λ (f : HartState → HartState). Some (f (swept_hart range.lo range.hi (machine.hart_at s (place - 1)))))
    (rests_kept g h first)) in
    subst (λ (k : ℕ). state_in i (slice_set row k id) ≡ Some (swept_to g range k s)) same more
    ∙ ap (λ (k : ℕ). Some (swept_to g range k s)) after

-- nothing is swept yet
pub sweep_begun : (g : GraphParts) (node : List ℕ) (s : MachineState) (range : SweepRange) → state_in g node ≡ Some s →
    state_in g node ≡ Some (swept_to g range 0 s)
sweep_begun g node s range is =
    is ∙ ap (λ (hs : List HartState). Some (record { harts = hs; memory = s.memory }))
    (sym (partly_none (swept_rest g range) s.harts))

-- which ranges can be swept
pub range_good : (range : SweepRange) → range.lo ≤ range.hi → range.hi ≤ 18446744073709551616 →
    is_range range.lo range.hi ≡ true
range_good range ordered within = grind (arith, nat_tests)

pub range_bad : (range : SweepRange) → (range.hi < range.lo) ⊎ (18446744073709551616 < range.hi) →
    is_range range.lo range.hi ≡ false
range_bad range (inl empty) = grind (arith, nat_tests)
range_bad range (inr past) = grind (arith, nat_tests)
