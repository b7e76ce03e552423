-- Names for `unfolding(..)` that open what their own line names.
use Rattle.std.specs.Prelude.{ℕ}
use Rattle.cap_model.specs.bounds.Alignment.{representable_length}
use Rattle.cap_model.specs.words.Fields.{with_null_fields, word_perms, word_otype, word_flag}
use Rattle.cap_model.specs.words.Fields.{word_reserved, word_ie, stored_t, stored_b, word_exponent}
use Rattle.cap_model.specs.words.Fields.{word_b, word_t, word_t14}
use Rattle.cap_model.specs.words.RawBounds.{region_floor, region_start, region_offset, raw_base}
use Rattle.cap_model.specs.words.RawBounds.{uncorrected_top, raw_top, corrected_top}

-- the fields of a word
unfoldable pub fields : ℕ → ℕ
unfolding with_null_fields word_perms word_otype word_flag word_reserved word_ie stored_t stored_b word_exponent word_b word_t word_t14
fields upper = with_null_fields upper

-- the regions of addresses, and the bounds in them
unfoldable pub regions : ℕ → ℕ
unfolding region_floor region_start region_offset raw_base raw_top uncorrected_top corrected_top
regions b = region_floor b

unfoldable pub length : ℕ → ℕ
unfolding representable_length
length len = representable_length len
