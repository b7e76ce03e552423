-- A load looks at one granule, and there at the bytes stored or at others.
use Rattle.std.proofs.Common.{◌≡◌, ℕ, ◌%◌, ◌*◌, ◌/◌, ◌^◌, ◌∙◌, arith, refl}
use Rattle.cheri_model.specs.steps.Memory.{bytes_of, bytes_at}
use Rattle.cheri_model.proofs.Granules.LoadsAfterStores.{load_data-store_data, load_data-store_data_above, load_data-store_data_below}
use Rattle.cheri_model.proofs.laws.memory.loads_give_what_was_stored.Goals as goal

low_bytes : (number bytes : ℕ) → bytes_at number 0 bytes ≡ number % 2 ^ (8 * bytes)
unfolding bytes_at
low_bytes number bytes = let one : number / 1 ≡ number = omega arith in rw one refl

pub returns-clause-stored : goal.returns-clause-stored
returns-clause-stored c = λ granules addr number width h.
    load_data-store_data granules addr number width h ∙ low_bytes number (bytes_of width)

pub returns-clause-above : goal.returns-clause-above
returns-clause-above c = load_data-store_data_above

pub returns-clause-below : goal.returns-clause-below
returns-clause-below c = load_data-store_data_below
