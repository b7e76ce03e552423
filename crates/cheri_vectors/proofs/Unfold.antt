-- Short names for hints: each definition opens what its own line names.
use Rattle.std.specs.Prelude.{ℕ, List}
use Rattle.cap_model.specs.words.Fields.{with_null_fields}
use Rattle.cap_model.specs.words.RawBounds.{region_floor}
use Rattle.cheri_vectors.specs.Words.{bounds_text, upper_with, corner_addr}

unfoldable pub words : ℕ → ℕ → List ℕ
unfolding upper_with with_null_fields corner_addr region_floor bounds_text
words upper addr = bounds_text upper addr
