-- Names for `unfolding(..)` that open what their own line names.
use Rattle.std.specs.Prelude.{ℕ, Option}
use Rattle.asm_places.specs.Places.{PlacesParts, kind_of, chunk_address, address_in, address_of}
use Rattle.asm_places.specs.Places.{apart, target_of}
use Rattle.asm_places.specs.Capabilities.{place_of, data_of, capability_of}

unfoldable pub places : PlacesParts → ℕ → Option ℕ
unfolding kind_of chunk_address address_in address_of apart target_of
places parts chunk = chunk_address parts chunk

unfoldable pub capabilities : PlacesParts → ℕ → Option ℕ
unfolding place_of data_of capability_of
capabilities parts chunk = chunk_address parts chunk
