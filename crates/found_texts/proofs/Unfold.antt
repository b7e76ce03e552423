-- A name for `unfolding(..)` that opens what its own line names.
use Rattle.std.specs.Prelude.{ℕ}
use Rattle.found_texts.specs.FoundParts.{order_member}
use Rattle.found_texts.specs.FoundTexts.{absent_data, absent_line, found_line}
use Rattle.found_texts.specs.ReducedTexts.{reduced_absent_data, reduced_line}

unfoldable pub texts : ℕ
unfolding found_line order_member absent_line absent_data reduced_line reduced_absent_data
texts = 0
