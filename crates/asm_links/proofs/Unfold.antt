-- Names for `unfolding(..)` that open what their own line names.
use Rattle.std.specs.Prelude.{ℕ, List}
use Rattle.asm_layout.specs.declared.chunk.Chunk.{Chunk}
use Rattle.asm_symbols.specs.Globals.{wants}
use Rattle.asm_links.specs.Seen.{twice_fault, seen_of}
use Rattle.asm_links.specs.Sections.{kind_of, own_judged, row_judged, rows_judged, sections_judged}
use Rattle.asm_links.specs.Order.{commons_from, order_of}
use Rattle.asm_links.specs.Locals.{has_digits, label_at, last_before, first_in, first_from, local_label}
use Rattle.asm_links.specs.Sizes.{sized_symbol, size_put, sizes_from, file_sizes, numbered_sizes, files_sizes, first_sizes}

unfoldable pub seen : ℕ → List Chunk → List ℕ
unfolding wants twice_fault seen_of
seen number chunks = commons_from number chunks

unfoldable pub sections : ℕ → List Chunk → List ℕ
unfolding kind_of own_judged row_judged rows_judged sections_judged
sections number chunks = commons_from number chunks

unfoldable pub orders : ℕ → List Chunk → List ℕ
unfolding commons_from order_of
orders number chunks = commons_from number chunks

unfoldable pub locals : ℕ → List Chunk → List ℕ
unfolding has_digits label_at last_before first_in first_from local_label
locals number chunks = commons_from number chunks

unfoldable pub sizes : ℕ → List Chunk → List ℕ
unfolding sized_symbol size_put sizes_from file_sizes numbered_sizes files_sizes first_sizes
sizes number chunks = commons_from number chunks

unfoldable pub published : ℕ → List Chunk → List ℕ
unfolding wants
published number chunks = commons_from number chunks
