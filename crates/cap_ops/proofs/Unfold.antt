-- Short names for hints: each definition opens what its own line names.
use Rattle.std.specs.Prelude.{ℕ, Bool}
use Rattle.std.proofs.lemmas.Nat.{and_le_l}
use Rattle.cap_model.specs.words.Fields.{with_null_fields, word_otype, word_ie}
use Rattle.cap_model.specs.words.Fields.{stored_t, stored_b, word_b, word_t}
use Rattle.cap_model.specs.values.Capability.{capability_at}
use Rattle.cap_model.specs.values.CapValue.{CapValue}
use Rattle.cap_model.specs.results.EditedWords.{with_perms, with_flag, with_otype}
use Rattle.cap_model.specs.results.EditedWords.{with_bounds_fields, with_rounded_fields}
use Rattle.cap_model.specs.results.EditedWords.{word_with_upper}
use Rattle.cap_model.specs.results.Addresses.{address_of, inc_offset, length_of}
use Rattle.cap_model.specs.results.Fields.{set_high}
use Rattle.cap_model.specs.results.Readings.{offset_of, type_number_of, is_subset, is_equal_exact}
use Rattle.cap_model.proofs.Results.Values.{perms_known, top_lt}
use Rattle.cap_model.proofs.Results.FieldResultsMade.{unsealed_perms_known}
use Rattle.cap_ops.specs.Tagged.{stored_exponent}
use Rattle.cap_ops.specs.Tagged.{length_steps}

unfoldable pub address : CapValue → ℕ
unfolding capability_at address_of
address v = address_of v

unfoldable pub integer : CapValue → ℕ
unfolding address_of
integer v = address_of v

unfoldable pub fields : ℕ → ℕ → ℕ → ℕ
unfolding with_null_fields with_perms with_flag with_otype with_bounds_fields with_rounded_fields
fields upper base len = with_rounded_fields upper base len

unfoldable pub readings : CapValue → ℕ
unfolding capability_at word_otype length_of offset_of type_number_of
readings v = length_of v

unfoldable pub changes : CapValue → ℕ → CapValue
unfolding inc_offset address_of set_high word_with_upper
changes v distance = inc_offset v distance

unfoldable pub comparisons : CapValue → CapValue → Bool
unfolding is_subset is_equal_exact
comparisons v w = is_subset v w

unfoldable pub stored : ℕ → ℕ
unfolding stored_exponent word_ie stored_t stored_b word_b word_t length_steps
stored upper = stored_exponent upper

-- the bounds and the permissions of a lawful value
pub ruleset known = (top_lt, perms_known)

-- permissions under a mask
pub ruleset masks = (and_le_l)

-- permissions after unsealing
pub ruleset unsealing = (unsealed_perms_known)
