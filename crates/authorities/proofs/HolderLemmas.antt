-- The numbers of what a holder has.
use Rattle.std.proofs.Common.{◌≡◌, ℕ, zero, suc, ◌+◌, ◌<◌, ◌≤◌, List, [], ◌∷◌, length, drop, arith, ap, sym, ◌∙◌, subst}
use Rattle.std.specs.Prelude.{Some, IsSome, true, false, option_and_then, option_map, slice_get, slice_index_or}
use Rattle.std.proofs.lemmas.Option.{none-some, same_Some, slice_get_within, slice_get-get_or}
use Rattle.cap_model.specs.values.CapValue.{CapValue, raw, tag_of}
use Rattle.cheri_model.specs.declared.trace.Status.{Status}
use Rattle.cheri_model.specs.steps.Hart.{HartState, null}
use Rattle.cheri_model.specs.runs.Machine.{MachineState}
use Rattle.cheri_model.specs.runs.Machine as machine
use Rattle.state_store.specs.Numbered.{each}
use Rattle.state_store.specs.Codes.{status_of}
use Rattle.state_store.specs.Stores.{Stored, hart_with, hart_of, hart_at, memory_at}
use Rattle.state_store.proofs.NumberedLemmas.{then_some, each_get, each_length}
use Rattle.state_store.proofs.StoreLemmas.{hart_parts}
use Rattle.state_store.proofs.ViewLemmas.{row_of_memory}
use Rattle.state_store.proofs.SeenLemmas.{memory_there}
use Rattle.states.specs.Graphs.{GraphParts, state_in}
use Rattle.states.proofs.NodeLemmas.{node_of, some_state, is_some}
use Rattle.explore_rights.specs.declared.rights.Rights.{Rights}
use Rattle.authorities.specs.declared.holders.Holder.{Holder}
use Rattle.authorities.specs.declared.holders.Holder.TheVariants as holder
use Rattle.authorities.specs.Authorities.{values_of}
use Rattle.explore_rights.specs.Held.{Holds}
use Rattle.authorities.specs.Holders.{place_of, part_in, part_numbers, AreNumbersOf, HasPart}

-- numbers that mean values
each_numbers : (values : List CapValue) (ids : List ℕ) (xs : List CapValue) → each (slice_get values) ids ≡ Some xs →
    AreNumbersOf values ids xs
each_numbers values ids xs all =
    let size = each_length (slice_get values) ids xs all in
    record {
      numbered = λ r h.
          let low : h.0 < length xs = slice_get_within xs h.0 h.1 h.2 in
          let within : h.0 < length ids = omega arith in
          let id = slice_get-get_or ids h.0 0 within in (
            h.0,
            slice_index_or ids h.0 0,
            h.1,
            id,
            each_get (slice_get values) ids xs h.0 (slice_index_or ids h.0 0) all id ∙ h.2,
            h.3,
            h.4,
          );
      holding = λ r h.
          (h.0, h.2, sym (each_get (slice_get values) ids xs h.0 h.1 all h.3) ∙ h.4, h.5, h.6);
      known = λ k id at.
          let low : k < length ids = slice_get_within ids k id at in
          let within : k < length xs = omega arith in
          let value = slice_get-get_or xs k (raw 0) within in
          slice_get_within values id (slice_index_or xs k (raw 0))
          (each_get (slice_get values) ids xs k id all at ∙ value);
    }

-- c0 holds nothing
holds_null : (pcc : CapValue) (regs : List CapValue) (r : Rights) → Holds (pcc ∷ null ∷ regs) r → Holds (pcc ∷ regs) r
holds_null pcc regs r (zero, v, at, tagged, same) = (0, v, at, tagged, same)
holds_null pcc regs r (suc zero, v, at, tagged, same) =
    let none : null ≡ v = same_Some null v at in
    let wrong : true ≡ false = sym tagged ∙ ap tag_of (sym none) in
    absurd (cc)
holds_null pcc regs r (suc (suc k), v, at, tagged, same) = (suc k, v, at, tagged, same)

null_holds : (pcc : CapValue) (regs : List CapValue) (r : Rights) → Holds (pcc ∷ regs) r → Holds (pcc ∷ null ∷ regs) r
null_holds pcc regs r (zero, v, at, tagged, same) = (0, v, at, tagged, same)
null_holds pcc regs r (suc k, v, at, tagged, same) = (suc (suc k), v, at, tagged, same)

numbers_with_null : (values : List CapValue) (ids : List ℕ) (pcc : CapValue) (regs : List CapValue) →
    AreNumbersOf values ids (pcc ∷ regs) → AreNumbersOf values ids (pcc ∷ null ∷ regs)
numbers_with_null values ids pcc regs h = record {
  numbered = λ r held. h.numbered r (holds_null pcc regs r held);
  holding = λ r numbered. null_holds pcc regs r (h.holding r numbered);
  known = h.known;
}

-- the registers are c0, which is null, and those from c1 on
regs_of : (regs : List CapValue) → length regs ≡ 32 → slice_index_or regs 0 null ≡ null → null ∷ drop 1 regs ≡ regs
regs_of [] count first = absurd (omega arith)
regs_of (x ∷ regs) count first = ap (λ (v : CapValue). v ∷ regs) (sym first)

hart_numbers : (values : List CapValue) (row : List ℕ) (h : HartState) → hart_of values row ≡ Some h →
    AreNumbersOf values (drop 1 row) (h.pcc ∷ h.regs)
unfolding hart_of
hart_numbers values [] h is = absurd (none-some h is)
hart_numbers values (c ∷ ids) h p =
    let a = then_some (λ (status : Status). option_and_then (hart_with status) (each (slice_get values) ids)) (status_of c) h p in
    let x = then_some (hart_with a.0) (each (slice_get values) ids) h a.2 in
    let f = hart_parts a.0 x.0 h x.2 in
    let all : each (slice_get values) ids ≡ Some (h.pcc ∷ drop 1 h.regs) = x.1 ∙ ap (λ (l : List CapValue). Some l) f.1 in
    subst (λ (regs : List CapValue). AreNumbersOf values ids (h.pcc ∷ regs)) (regs_of h.regs f.2 f.3)
    (numbers_with_null values ids h.pcc (drop 1 h.regs) (each_numbers values ids (h.pcc ∷ drop 1 h.regs) all))

-- the row of a hart
hart_row : (store : Stored) (id : ℕ) (h : HartState) → hart_at store id ≡ Some h →
    (row : List ℕ) × (slice_get store.harts id ≡ Some row) × (hart_of store.values row ≡ Some h)
unfolding hart_at
hart_row store id h is = then_some (hart_of store.values) (slice_get store.harts id) h is

pub numbers_of : (g : GraphParts) (who : Holder) (row : List ℕ) (s : MachineState) → state_in g row ≡ Some s →
    place_of who < length row →
    (ids : List ℕ) × (part_numbers who g.store (part_in who row) ≡ Some ids)
    × AreNumbersOf g.store.values ids (values_of who s)
unfolding part_numbers
numbers_of g (holder.Hart number) row s is place =
    let node = node_of g row s is in
    let width = node.width in
    let low : number < length g.image.harts = omega arith in
    let r = hart_row g.store (slice_index_or row (number + 1) 0) (machine.hart_at s number) (node.hart number low) in
    (drop 1 r.0, ap (option_map (drop 1)) r.1, hart_numbers g.store.values r.0 (machine.hart_at s number) r.2)
numbers_of g holder.Memory row s is place =
    let node = node_of g row s is in
    let r = memory_there g.store (slice_index_or row 0 0) (is_some (memory_at g.store (slice_index_or row 0 0)) s.memory node.memory) in
    let wide = row_of_memory g.store (slice_index_or row 0 0) r.0 s.memory node.memory r.2 in
    (r.0, r.2, each_numbers g.store.values r.0 s.memory wide.1)

-- a row that has a part is that of a state
pub has_part : (g : GraphParts) (who : Holder) (row : List ℕ) (s : MachineState) → state_in g row ≡ Some s →
    place_of who ≤ length g.image.harts → HasPart g who row
has_part g who row s is place =
    let node = node_of g row s is in
    let width = node.width in
    record { state = is_some (state_in g row) s is; place = omega arith }

-- what is known of a part
pub hart_known : (g : GraphParts) (row : List ℕ) (number : ℕ) → HasPart g (holder.Hart number) row →
    IsSome (hart_at g.store (slice_index_or row (number + 1) 0))
hart_known g row number part =
    let s = some_state g row part.state in
    let node = node_of g row s.0 s.1 in
    let width = node.width in
    let place = part.place in
    let low : number < length g.image.harts = omega arith in
    is_some (hart_at g.store (slice_index_or row (number + 1) 0)) (machine.hart_at s.0 number) (node.hart number low)

pub memory_known : (g : GraphParts) (row : List ℕ) → HasPart g holder.Memory row →
    IsSome (memory_at g.store (slice_index_or row 0 0))
memory_known g row part =
    let s = some_state g row part.state in
    let node = node_of g row s.0 s.1 in
    is_some (memory_at g.store (slice_index_or row 0 0)) (s.0).memory node.memory

pub hart_part : (store : Stored) (number part : ℕ) (row ids : List ℕ) → slice_get store.harts part ≡ Some row →
    drop 1 row ≡ ids → part_numbers (holder.Hart number) store part ≡ Some ids
unfolding part_numbers
hart_part store number part row ids is rest = ap (option_map (drop 1)) is ∙ ap (λ (l : List ℕ). Some l) rest

pub memory_part : (store : Stored) (part : ℕ) (row : List ℕ) → slice_get store.memories part ≡ Some row →
    part_numbers holder.Memory store part ≡ Some row
unfolding part_numbers
memory_part store part row is = is
