-- What is seen of a state by the numbers in its row.
use Rattle.std.proofs.Common.{◌≡◌, ℕ, zero, suc, ◌+◌, ◌<◌, ◌≤◌, List, [], ◌∷◌, length, arith, ap, sym, ◌∙◌, refl, subst, ◌++◌, inl, inr}
use Rattle.std.specs.Prelude.{Option, Some, None, IsSome, option_and_then, slice_get, slice_index_or}
use Rattle.std.proofs.lemmas.Bool.{cases_lt}
use Rattle.std.proofs.lemmas.List.{get_or_append_left, get_or_at}
use Rattle.std.proofs.lemmas.Option.{none-some, same_Some, slice_get_within, slice_get-get_or, get_or_from_slice_get}
use Rattle.cap_model.specs.values.CapValue.{CapValue, raw}
use Rattle.cheri_model.specs.declared.trace.Status.{Status}
use Rattle.cheri_model.specs.steps.Hart.{HartState, null, register}
use Rattle.cheri_model.specs.steps.Memory.{granule_at}
use Rattle.cheri_model.specs.runs.Machine.{MachineState}
use Rattle.cheri_model.specs.runs.Machine as machine
use Rattle.state_store.specs.Numbered.{each}
use Rattle.state_store.specs.Codes.{status_of}
use Rattle.state_store.specs.Stores.{Stored, hart_of, memory_of, hart_at, memory_at, state_of}
use Rattle.state_store.proofs.NumberedLemmas.{some_of, then_some, each_length, each_of}
use Rattle.state_store.proofs.StoreLemmas.{state_parts, memory_made}
use Rattle.state_store.proofs.ViewLemmas.{IsHartRow, row_of_hart, hart_in_state, row_of_memory, granule_in_memory}

-- the row of a hart, and of a memory
pub hart_there : (s : Stored) (id : ℕ) → IsSome (hart_at s id) →
    (row : List ℕ) × (h : HartState) × (slice_get s.harts id ≡ Some row) × (hart_of s.values row ≡ Some h) × (hart_at s id ≡ Some h)
unfolding hart_at
hart_there s id some =
    let h = some_of (hart_at s id) some in
    let row = then_some (hart_of s.values) (slice_get s.harts id) h.0 h.1 in
    (row.0, h.0, row.1, row.2, h.1)

pub memory_there : (s : Stored) (id : ℕ) → IsSome (memory_at s id) →
    (row : List ℕ) × (m : List CapValue) × (slice_get s.memories id ≡ Some row) × (memory_at s id ≡ Some m)
unfolding memory_at
memory_there s id some =
    let m = some_of (memory_at s id) some in
    let row = then_some (memory_of s.values s.granules) (slice_get s.memories id) m.0 m.1 in
    (row.0, m.0, row.1, m.1)

pub memory_wide : (s : Stored) (id : ℕ) (row : List ℕ) → IsSome (memory_at s id) → slice_get s.memories id ≡ Some row →
    length row ≡ s.granules
memory_wide s id row some at =
    let m = memory_there s id some in
    (row_of_memory s id row m.1 m.3 at).0

pub hart_row_there : (s : Stored) (id : ℕ) (row : List ℕ) → IsSome (hart_at s id) → slice_get s.harts id ≡ Some row →
    IsSome (hart_of s.values row)
hart_row_there s id row some at =
    let h = hart_there s id some in
    let same : h.0 ≡ row = same_Some h.0 row (sym h.2 ∙ at) in
    subst (λ (o : Option HartState). IsSome o) (sym (ap (hart_of s.values) (sym same) ∙ h.3)) refl

pub hart_at_made : (s : Stored) (id : ℕ) (row : List ℕ) (h : HartState) → slice_get s.harts id ≡ Some row →
    hart_of s.values row ≡ Some h → hart_at s id ≡ Some h
unfolding hart_at
hart_at_made s id row h at is = rw at is

-- the memory of a state, and how many numbers its row has
pub seen_memory : (store : Stored) (row : List ℕ) (s : MachineState) → state_of store row ≡ Some s →
    (0 < length row) × (memory_at store (slice_index_or row 0 0) ≡ Some s.memory)
unfolding state_of
seen_memory store [] s is = absurd (none-some s is)
seen_memory store (m ∷ hs) s is = let some : 0 < suc (length hs) = omega arith in (some, (state_parts store m hs s is).0)

pub seen_count : (store : Stored) (row : List ℕ) (s : MachineState) → state_of store row ≡ Some s →
    length row ≡ length s.harts + 1
unfolding state_of
seen_count store [] s is = absurd (none-some s is)
seen_count store (m ∷ hs) s is =
    let size = each_length (hart_at store) hs s.harts (state_parts store m hs s is).1 in
    omega arith

-- a hart of a state
pub seen_hart : (store : Stored) (row : List ℕ) (s : MachineState) (j : ℕ) → state_of store row ≡ Some s →
    j + 1 < length row → hart_at store (slice_index_or row (j + 1) 0) ≡ Some (machine.hart_at s j)
unfolding state_of
seen_hart store [] s j is below = absurd (none-some s is)
seen_hart store (m ∷ hs) s j is below =
    let within : j < length hs = omega arith in
    let index : j + 1 ≡ suc j = omega arith in
    ap (λ (k : ℕ). hart_at store (slice_index_or (m ∷ hs) k 0)) index
    ∙ (hart_in_state store m hs s j (slice_index_or hs j 0) is (slice_get-get_or hs j 0 within)).1

pub seen_granule : (store : Stored) (m : ℕ) (row : List ℕ) (memory : List CapValue) (k : ℕ) → memory_at store m ≡ Some memory →
    slice_get store.memories m ≡ Some row → k < length row →
    (slice_index_or row k 0 < length store.values)
    × (slice_get store.values (slice_index_or row k 0) ≡ Some (granule_at memory k))
seen_granule store m row memory k is at below =
    let g = granule_in_memory store m row memory k (slice_index_or row k 0) is at (slice_get-get_or row k 0 below) in
    (slice_get_within store.values (slice_index_or row k 0) (granule_at memory k) g.1, g.1)

pub seen_size : (store : Stored) (m : ℕ) (row : List ℕ) (memory : List CapValue) → memory_at store m ≡ Some memory →
    slice_get store.memories m ≡ Some row → length row ≡ length memory
seen_size store m row memory is at = each_length (slice_get store.values) row memory (row_of_memory store m row memory is at).1

-- what the row of a hart says of it
pub seen_row : (store : Stored) (id : ℕ) (row : List ℕ) (h : HartState) → hart_at store id ≡ Some h →
    slice_get store.harts id ≡ Some row → IsHartRow store.values row h
unfolding hart_at
seen_row store id row h is at =
    let r = then_some (hart_of store.values) (slice_get store.harts id) h is in
    let same : row ≡ r.0 = same_Some row r.0 (sym at ∙ r.1) in
    row_of_hart store.values row h (ap (hart_of store.values) same ∙ r.2)

pub seen_status : (store : Stored) (id : ℕ) (row : List ℕ) (h : HartState) → hart_at store id ≡ Some h →
    slice_get store.harts id ≡ Some row → (0 < length row) × (status_of (slice_index_or row 0 0) ≡ Some h.status)
seen_status store id row h is at =
    let r = seen_row store id row h is at in
    let width = r.width in
    let some : 0 < length row = omega arith in
    (some, r.status (slice_index_or row 0 0) (slice_get-get_or row 0 0 some))

pub seen_pcc : (store : Stored) (id : ℕ) (row : List ℕ) (h : HartState) → hart_at store id ≡ Some h →
    slice_get store.harts id ≡ Some row →
    (1 < length row) × (slice_index_or row 1 0 < length store.values) × (slice_get store.values (slice_index_or row 1 0) ≡ Some h.pcc)
seen_pcc store id row h is at =
    let r = seen_row store id row h is at in
    let width = r.width in
    let some : 1 < length row = omega arith in
    let v = r.pcc (slice_index_or row 1 0) (slice_get-get_or row 1 0 some) in
    (some, slice_get_within store.values (slice_index_or row 1 0) h.pcc v, v)

pub seen_register : (store : Stored) (id : ℕ) (row : List ℕ) (h : HartState) (i : ℕ) → hart_at store id ≡ Some h →
    slice_get store.harts id ≡ Some row → 0 < i → i < 32 →
    (i + 1 < length row) × (slice_index_or row (i + 1) 0 < length store.values)
    × (slice_get store.values (slice_index_or row (i + 1) 0) ≡ Some (register h i))
unfolding register
seen_register store id row h i is at some below =
    let r = seen_row store id row h is at in
    let width = r.width in
    let count = r.registers in
    let within : i + 1 < length row = omega arith in
    let inside : i < length h.regs = omega arith in
    let v = r.register i (slice_index_or row (i + 1) 0) some below (slice_get-get_or row (i + 1) 0 within)
    ∙ slice_get-get_or h.regs i null inside in
    (within, slice_get_within store.values (slice_index_or row (i + 1) 0) (slice_index_or h.regs i null) v, v)

pub seen_null : (store : Stored) (id : ℕ) (h : HartState) → hart_at store id ≡ Some h → register h 0 ≡ null
unfolding register hart_at
seen_null store id h is =
    let r = then_some (hart_of store.values) (slice_get store.harts id) h is in
    (row_of_hart store.values r.0 h r.2).null_first

-- a memory's row, by its numbers one by one
pub memory_row_made : (values : List CapValue) (row : List ℕ) (memory : List CapValue) → length row ≡ length memory →
    ((k : ℕ) → k < length row → slice_get values (slice_index_or row k 0) ≡ Some (granule_at memory k)) →
    each (slice_get values) row ≡ Some memory
unfolding granule_at
memory_row_made values row memory same points =
    each_of (slice_get values) row memory same (λ k i v at there.
    let below : k < length row = slice_get_within row k i at in
    ap (slice_get values) (sym (get_or_from_slice_get row k i 0 at))
    ∙ (points k below ∙ ap (λ (x : CapValue). Some x) (get_or_from_slice_get memory k v (raw 0) there)))

-- one more number
pub memory_row_more : (values values' : List CapValue) (row : List ℕ) (memory : List CapValue) (n id : ℕ) →
    ((i : ℕ) (x : CapValue) → slice_get values i ≡ Some x → slice_get values' i ≡ Some x) → length row ≡ n →
    ((k : ℕ) → k < n → slice_get values (slice_index_or row k 0) ≡ Some (granule_at memory k)) →
    slice_get values' id ≡ Some (granule_at memory n) →
    (k : ℕ) → k < n + 1 → slice_get values' (slice_index_or (row ++ id ∷ []) k 0) ≡ Some (granule_at memory k)
memory_row_more values values' row memory n id kept count points is k below = elim (cases_lt k n) [
  | inl low ↦
      let within : k < length row = omega arith in
      ap (slice_get values') (get_or_append_left row (id ∷ []) 0 k within)
      ∙ kept (slice_index_or row k 0) (granule_at memory k) (points k low)
  | inr high ↦
      let last : length row ≡ k = omega arith in
      let same : n ≡ k = omega arith in
      ap (slice_get values') (get_or_at row id [] 0 k last) ∙ (is ∙ ap (λ (i : ℕ). Some (granule_at memory i)) same)
]

pub memory_at_made : (s : Stored) (id : ℕ) (row : List ℕ) (m : List CapValue) → slice_get s.memories id ≡ Some row →
    length row ≡ s.granules → each (slice_get s.values) row ≡ Some m → memory_at s id ≡ Some m
unfolding memory_at
memory_at_made s id row m at wide is =
    ap (λ (o : Option (List ℕ)). option_and_then (memory_of s.values s.granules) o) at
    ∙ memory_made s.values s.granules row m wide is
