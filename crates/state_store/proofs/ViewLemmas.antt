-- The parts of a state by the numbers in its row.
use Rattle.std.proofs.Common.{◌≡◌, ℕ, zero, suc, ◌+◌, ◌-◌, ◌<◌, ◌≤◌, List, [], ◌∷◌, length, arith, ap, sym, ◌∙◌, refl, subst, drop}
use Rattle.std.specs.Prelude.{Option, Some, None, option_and_then, slice_get, slice_index_or}
use Rattle.std.proofs.lemmas.List.{length-drop}
use Rattle.std.proofs.lemmas.Option.{none-some, same_Some, slice_get_within, slice_get-get_or, get_or_from_slice_get}
use Rattle.cap_model.specs.values.CapValue.{CapValue, raw}
use Rattle.cheri_model.specs.declared.trace.Status.{Status}
use Rattle.cheri_model.specs.steps.Hart.{HartState, null, register}
use Rattle.cheri_model.specs.steps.Memory.{granule_at}
use Rattle.cheri_model.specs.runs.Machine.{MachineState, no_hart}
use Rattle.cheri_model.specs.runs.Machine as machine
use Rattle.state_store.specs.Numbered.{each}
use Rattle.state_store.specs.Codes.{status_of}
use Rattle.state_store.specs.Stores.{Stored, hart_with, hart_of, memory_of, hart_at, memory_at, state_of}
use Rattle.state_store.proofs.NumberedLemmas.{then_some, each_get, each_length}
use Rattle.state_store.proofs.StoreLemmas.{hart_parts, memory_parts, state_parts}

-- What the row of a hart says.
pub record IsHartRow (values : List CapValue) (row : List ℕ) (h : HartState) : Type 0 where
  pub width : length row ≡ 33
  pub status : (code : ℕ) → slice_get row 0 ≡ Some code → status_of code ≡ Some h.status
  pub pcc : (id : ℕ) → slice_get row 1 ≡ Some id → slice_get values id ≡ Some h.pcc
  pub registers : length h.regs ≡ 32
  pub null_first : slice_index_or h.regs 0 null ≡ null
  pub register : (i id : ℕ) → 0 < i → i < 32 → slice_get row (i + 1) ≡ Some id → slice_get values id ≡ slice_get h.regs i

later_register : (h : HartState) (i : ℕ) → 0 < i → slice_get (h.pcc ∷ drop 1 h.regs) i ≡ slice_get h.regs i
later_register h zero some = absurd (omega arith)
later_register h (suc i) some = dropped h.regs i
  where
    dropped : (xs : List CapValue) (i : ℕ) → slice_get (drop 1 xs) i ≡ slice_get xs (suc i)
    dropped [] i = refl
    dropped (x ∷ xs) i = refl

after_two : (c : ℕ) (is : List ℕ) (i : ℕ) → slice_get (c ∷ is) (i + 1) ≡ slice_get is i
after_two c is i = let same : i + 1 ≡ suc i = omega arith in ap (slice_get (c ∷ is)) same

pub row_of_hart : (values : List CapValue) (row : List ℕ) (h : HartState) → hart_of values row ≡ Some h →
    IsHartRow values row h
unfolding hart_of
row_of_hart values [] h is = absurd (none-some h is)
row_of_hart values (c ∷ is) h p =
    let a = then_some (λ (status : Status). option_and_then (hart_with status) (each (slice_get values) is)) (status_of c) h p in
    let x = then_some (hart_with a.0) (each (slice_get values) is) h a.2 in
    let f = hart_parts a.0 x.0 h x.2 in
    let whole : List CapValue = h.pcc ∷ drop 1 h.regs in
    let all : each (slice_get values) is ≡ Some whole = x.1 ∙ ap (λ (l : List CapValue). Some l) f.1 in
    let count : length is ≡ length whole = each_length (slice_get values) is whole all in
    let rest : length (drop 1 h.regs) ≡ length h.regs - 1 = length-drop 1 h.regs in
    let size = f.2 in
    record {
      width = omega arith;
      status = λ code at. ap status_of (sym (same_Some c code at)) ∙ (a.1 ∙ ap (λ (s : Status). Some s) f.0);
      pcc = λ id at. each_get (slice_get values) is whole 0 id all at;
      registers = f.2;
      null_first = f.3;
      register = λ i id some below at.
          each_get (slice_get values) is whole i id all (sym (after_two c is i) ∙ at) ∙ later_register h i some;
    }

-- the hart of a state
pub hart_in_state : (store : Stored) (m : ℕ) (hs : List ℕ) (s : MachineState) (j id : ℕ) → state_of store (m ∷ hs) ≡ Some s →
    slice_get hs j ≡ Some id → (j < length s.harts) × (hart_at store id ≡ Some (machine.hart_at s j))
unfolding machine.hart_at
hart_in_state store m hs s j id is at =
    let p = state_parts store m hs s is in
    let size = each_length (hart_at store) hs s.harts p.1 in
    let within : j < length hs = slice_get_within hs j id at in
    let below : j < length s.harts = omega arith in (
      below,
      each_get (hart_at store) hs s.harts j id p.1 at ∙ slice_get-get_or s.harts j no_hart below,
    )

-- the numbers of a memory
pub row_of_memory : (store : Stored) (m : ℕ) (row : List ℕ) (memory : List CapValue) → memory_at store m ≡ Some memory →
    slice_get store.memories m ≡ Some row →
    (length row ≡ store.granules) × (each (slice_get store.values) row ≡ Some memory)
unfolding memory_at
row_of_memory store m row memory is at =
    let a = then_some (memory_of store.values store.granules) (slice_get store.memories m) memory is in
    let same : row ≡ a.0 = same_Some row a.0 (sym at ∙ a.1) in
    memory_parts store.values store.granules row memory
    (ap (memory_of store.values store.granules) same ∙ a.2)

pub granule_in_memory : (store : Stored) (m : ℕ) (row : List ℕ) (memory : List CapValue) (k id : ℕ) →
    memory_at store m ≡ Some memory → slice_get store.memories m ≡ Some row → slice_get row k ≡ Some id →
    (length memory ≡ store.granules) × (slice_get store.values id ≡ Some (granule_at memory k))
unfolding granule_at
granule_in_memory store m row memory k id is at there =
    let p = row_of_memory store m row memory is at in
    let size = each_length (slice_get store.values) row memory p.1 in
    let within : k < length row = slice_get_within row k id there in
    let below : k < length memory = omega arith in (
      sym size ∙ p.0,
      each_get (slice_get store.values) row memory k id p.1 there ∙ slice_get-get_or memory k (raw 0) below,
    )
