-- The lemmas of each file of laws, for `using(..)` at its head.
use Rattle.cap_model.proofs.Rounding.Searches.{search_laws}
use Rattle.cap_model.proofs.Rounding.Exponents.{exponent_laws, exponent_digits, alignment_laws}
use Rattle.cap_model.proofs.Rounding.Exponents.{internal_exponent_laws}
use Rattle.cap_model.proofs.Rounding.Roundings.{rounding_holds, short_rounding, rounded_length_laws}
use Rattle.cap_model.proofs.Rounding.RoundingSteps.{rounding_steps}
use Rattle.cap_model.proofs.Rounding.RoundingsWithin.{lawful_rounding, exact_laws}
use Rattle.cap_model.proofs.Rounding.RoundedFields.{field_widths}
use Rattle.cap_model.proofs.Rounding.Alignments.{aligned_laws, length_laws, length_at_zero_least}
use Rattle.cap_model.proofs.Rounding.Alignments.{alignment_mask_aligns}

pub ruleset lengths = (search_laws, exponent_laws, exponent_digits, internal_exponent_laws, alignment_laws)

pub ruleset rounding = (rounding_holds, rounding_steps, short_rounding, rounded_length_laws, lawful_rounding, exact_laws, field_widths)

pub ruleset aligning = (aligned_laws, length_laws, length_at_zero_least, alignment_mask_aligns)
