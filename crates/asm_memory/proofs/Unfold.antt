-- Names for `unfolding(..)` that open what their own line names.
use Rattle.std.specs.Prelude.{ℕ, List, Bool}
use Rattle.cap_model.specs.values.CapValue.{CapValue}
use Rattle.asm_memory.specs.Memory.{bytes_put, fill_put, capability_put, listed_below}
use Rattle.asm_memory.specs.Numbers.{is_in_width, number_bytes, number_put}

unfoldable pub memory : List CapValue → ℕ → List ℕ → List CapValue
unfolding bytes_put fill_put capability_put listed_below
memory before addr bytes = bytes_put before addr bytes

unfoldable pub numbers : ℕ → ℕ → Bool
unfolding is_in_width number_bytes number_put
numbers width value = is_in_width width value
