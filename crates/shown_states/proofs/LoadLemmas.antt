-- Lists that are filled with those of a state, one place after another.
use Rattle.std.proofs.Common.{◌≡◌, ℕ, suc, ◌+◌, ◌*◌, ◌<◌, ◌≤◌, List, [], ◌∷◌, ◌++◌, length, take, get_or, arith, ap, sym, ◌∙◌, length-set}
use Rattle.std.specs.Prelude.{Some, slice_set, slice_get, slice_index_or}
use Rattle.std.proofs.Math.Seq.{take-suc}
use Rattle.std.proofs.lemmas.List.{take_more_set, take_all}
use Rattle.cap_model.specs.values.CapValue.{CapValue, raw}
use Rattle.cheri_model.specs.steps.Memory.{granule_at, granule_number, store_capability}
use Rattle.cheri_model.specs.runs.Machine.{MachineState}
use Rattle.state_store.specs.Stores.{Stored, memory_of, memory_at, state_of}
use Rattle.state_store.proofs.NumberedLemmas.{then_some, each_length}
use Rattle.state_store.proofs.ViewLemmas.{row_of_memory}
use Rattle.state_store.proofs.SeenLemmas.{seen_memory}

-- one place more
pub next_loaded : {X : Type 0} (xs ys : List X) (i : ℕ) (d x : X) → i < length xs → i < length ys → x ≡ get_or ys i d
    → take i xs ≡ take i ys → take (i + 1) (slice_set xs i x) ≡ take (i + 1) ys
next_loaded {X} xs ys i d x within there here so_far =
    let more : suc i ≡ i + 1 = omega arith in
    take_more_set xs i x within
    ∙ (ap (λ (l : List X). l ++ x ∷ []) so_far
    ∙ (ap (λ (z : X). take i ys ++ z ∷ []) here
    ∙ (sym (take-suc ys i d there) ∙ ap (λ (k : ℕ). take k ys) more)))

-- all of them
pub all_loaded : {X : Type 0} (xs ys : List X) (i : ℕ) → length xs ≡ length ys → length xs ≤ i
    → take i xs ≡ take i ys → xs ≡ ys
all_loaded xs ys i same ended so_far =
    sym (take_all i xs ended) ∙ (so_far ∙ take_all i ys (omega arith))

-- a granule more
pub next_granule : (ram memory : List CapValue) (i addr : ℕ) (v : CapValue) → addr ≡ 2147483648 + 16 * i
    → i < length ram → i < length memory → v ≡ granule_at memory i → take i ram ≡ take i memory
    → take (i + 1) (store_capability ram addr v) ≡ take (i + 1) memory
unfolding granule_at store_capability
next_granule ram memory i addr v is within there here so_far =
    let number : granule_number addr ≡ i = omega arith in
    rw number (next_loaded ram memory i (raw 0) v within there here so_far)

pub stored_size : (ram : List CapValue) (addr : ℕ) (v : CapValue) → length (store_capability ram addr v) ≡ length ram
unfolding store_capability
stored_size ram addr v = length-set ram (granule_number addr) v

sized : (store : Stored) (m : ℕ) (memory : List CapValue) → memory_at store m ≡ Some memory → length memory ≡ store.granules
unfolding memory_at
sized store m memory is =
    let a = then_some (memory_of store.values store.granules) (slice_get store.memories m) memory is in
    let p = row_of_memory store m a.0 memory is a.1 in
    sym (each_length (slice_get store.values) a.0 memory p.1) ∙ p.0

-- a state has as many granules as its store says
pub memory_size : (store : Stored) (row : List ℕ) (s : MachineState) → state_of store row ≡ Some s →
    length s.memory ≡ store.granules
memory_size store row s is = sized store (slice_index_or row 0 0) s.memory (seen_memory store row s is).1
