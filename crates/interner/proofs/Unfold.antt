-- Names for `unfolding(..)` that open what their own line names.
use Rattle.std.specs.Prelude.{ℕ}
use Rattle.interner.specs.Slots.{slot_of, tag_in, link_in}

unfoldable pub slots : ℕ
unfolding slot_of tag_in link_in
slots = 0
