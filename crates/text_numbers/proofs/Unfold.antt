-- Names for `unfolding(..)` that open what their own line names.
use Rattle.std.specs.Prelude.{ℕ}
use Rattle.text_numbers.specs.Numerals.{values_from, number_in, number_of}

unfoldable pub reading : ℕ
unfolding values_from number_in number_of
reading = 0
