-- Short names for hints: each definition opens what its own line names.
use Rattle.std.specs.Prelude.{ℕ, List}
use Rattle.cap_model.specs.values.CapValue.{CapValue}
use Rattle.cheri_model.specs.steps.Memory.{granule_at, load_data, store_data}
use Rattle.cheri_model.specs.steps.Memory.{load_capability, store_capability}
use Rattle.tagged_mem.specs.Packed.{number_at, tag_at}

-- the bytes and the tags
unfoldable pub packed : List ℕ → ℕ → ℕ → ℕ
unfolding number_at tag_at
packed bytes i count = number_at bytes i count

-- the granules' values
unfoldable pub memory : List CapValue → ℕ → CapValue
unfolding granule_at load_data store_data load_capability store_capability
memory granules addr = load_capability granules addr
