-- What a row means, where it means a state.
use Rattle.std.proofs.Common.{◌≡◌, ℕ, ◌+◌, ◌<◌, List, length, refl, ap, ◌∙◌, arith}
use Rattle.std.specs.Prelude.{Option, Some, None, IsSome}
use Rattle.cheri_model.specs.runs.Machine.{MachineState}
use Rattle.state_store.specs.Stores.{Stored, state_of}
use Rattle.state_store.proofs.SeenLemmas.{seen_count}
use Rattle.shown_states.specs.Meant.{state_meant}
use Rattle.shown_states.proofs.LoadLemmas.{memory_size}

meant : (o : Option MachineState) → IsSome o → o ≡ Some (state_meant o)
meant (Some s) some = refl
meant None some = cc

pub is_meant : (store : Stored) (row : List ℕ) (s : MachineState) → IsSome (state_of store row) → state_meant (state_of store row) ≡ s
    → state_of store row ≡ Some s
is_meant store row s some is = meant (state_of store row) some ∙ ap (λ (m : MachineState). Some m) is

pub hart_within : (store : Stored) (row : List ℕ) (s : MachineState) (hart : ℕ) → IsSome (state_of store row)
    → state_meant (state_of store row) ≡ s → hart < length s.harts → hart + 1 < length row
hart_within store row s hart some is below =
    let count = seen_count store row s (is_meant store row s some is) in omega arith

pub granule_within : (store : Stored) (row : List ℕ) (s : MachineState) (number : ℕ) → IsSome (state_of store row)
    → state_meant (state_of store row) ≡ s → number < length s.memory → number < store.granules
granule_within store row s number some is below =
    let size = memory_size store row s (is_meant store row s some is) in omega arith
