-- Names for `unfolding(..)` that open what their own line names.
use Rattle.std.specs.Prelude.{ℕ, Bool, List, Option}
use Rattle.asm_values.specs.declared.values.Value.{Value}
use Rattle.asm_requests.specs.Words.{WordParts}
use Rattle.asm_starts.specs.Known.{KnownParts, first_named, number_of, found}
use Rattle.asm_starts.specs.Values.{place_named, code_named, entry_named, entry_at, default_entry}
use Rattle.asm_starts.specs.Values.{symbol_value, table_value, held_value}
use Rattle.asm_starts.specs.Words.{register_claimed, entry_put, stack_put, integer_put}
use Rattle.asm_starts.specs.Words.{capability_put, setting_put, word_put, word_at}
use Rattle.asm_starts.specs.Starts.{has_exit, entry_in, said_entry, places_of, start_of}
use Rattle.asm_starts.specs.Ram.{taken, default_ram, is_enough}

unfoldable pub known : KnownParts → List ℕ → Option Value
unfolding first_named number_of found
known parts name = found parts name

unfoldable pub values : KnownParts → List ℕ → Option Value
unfolding place_named code_named entry_named entry_at default_entry symbol_value table_value held_value
values parts name = found parts name

unfoldable pub words : KnownParts → List ℕ → Option Value
unfolding register_claimed entry_put stack_put integer_put capability_put setting_put word_put word_at
words parts name = found parts name

unfoldable pub starts : List WordParts → Bool
unfolding has_exit entry_in said_entry places_of start_of
starts words = has_exit words

unfoldable pub ram : ℕ → ℕ
unfolding taken default_ram is_enough
ram memory_end = taken memory_end
