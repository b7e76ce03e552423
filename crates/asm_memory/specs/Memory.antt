-- Memory, as statements fill it.
use Rattle.std.specs.Prelude.{ℕ, ◌/◌, ◌==◌, if◌then◌else◌, List, length, replicate, take}
use Rattle.cap_model.specs.values.CapValue.{CapValue}
use Rattle.cheri_model.specs.declared.memory.TheConstants.{GRANULE_BYTES}
use Rattle.cheri_model.specs.steps.Memory.{ram_base, is_in_ram, fits, store_capability}
use Rattle.listings.specs.Draft.{stored_bytes}
use Rattle.listings.specs.Meaning.{listed_from}

-- bytes from an address on, where memory has them all
unfoldable pub bytes_put : List CapValue → ℕ → List ℕ → List CapValue
bytes_put memory addr bytes =
    if is_in_ram memory addr (length bytes) then stored_bytes memory addr bytes else memory

-- so many bytes that are the same; zeros are there already
unfoldable pub fill_put : List CapValue → ℕ → ℕ → ℕ → List CapValue
fill_put memory addr count byte =
    if byte == 0 then memory else bytes_put memory addr (replicate count byte)

-- a value in a granule, with its tag
unfoldable pub capability_put : List CapValue → ℕ → CapValue → List CapValue
capability_put memory addr value =
    if fits memory addr GRANULE_BYTES then store_capability memory addr value else memory

-- the granules of the first so many bytes that are tagged or not all 0
unfoldable pub listed_below : ℕ → List CapValue → List (ℕ × CapValue)
listed_below size memory = listed_from ram_base (take (size / GRANULE_BYTES) memory)
