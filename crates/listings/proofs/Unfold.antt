-- Names for `unfolding(..)` that open what their own line names.
use Rattle.std.specs.Prelude.{ℕ, List, Result}
use Rattle.grammar.specs.declared.fault.ListingFaultKind.{ListingFaultKind}
use Rattle.grammar.specs.declared.capability.CapParts.{CapParts}
use Rattle.listings.specs.Draft.{DraftParts, value_of, with_ram, add_hart, with_hart, set_register}
use Rattle.listings.specs.Draft.{with_set, with_bytes, with_capability, with_instruction}
use Rattle.listings.specs.Statement.{ram_line, hart_line, settable_register_of, word_setting}
use Rattle.listings.specs.Statement.{capability_setting, setting_of, set_line, hex_bytes}
use Rattle.listings.specs.Statement.{bytes_line, cap_line, instruction_line, label_line}
use Rattle.listings.specs.Statement.{line_from, tokens_meaning}
use Rattle.listings.specs.Meaning.{finished}
use Rattle.listings.specs.Statement.{directive_line, other_line}
use Rattle.listings.specs.Meaning.{line_meaning, listing_meaning}

unfoldable pub lines : DraftParts → List (List ℕ) → Result DraftParts ListingFaultKind
unfolding ram_line hart_line settable_register_of word_setting capability_setting setting_of set_line hex_bytes bytes_line cap_line instruction_line label_line directive_line other_line line_from tokens_meaning
lines draft tokens = ram_line draft tokens

unfoldable pub draft : DraftParts → CapParts → Result DraftParts ListingFaultKind
unfolding value_of with_ram add_hart with_hart set_register with_set with_bytes with_capability with_instruction finished
draft before parts = with_hart before parts

unfoldable pub reader : ℕ
unfolding line_meaning listing_meaning
reader = 0
