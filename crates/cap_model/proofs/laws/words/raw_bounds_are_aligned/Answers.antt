-- Both bounds are multiples of the alignment of the word's exponent, which is the length's or more.
use Rattle.cap_model.proofs.Bounds.RawAligned.{raw_bounds_aligned}
use Rattle.cap_model.proofs.laws.words.raw_bounds_are_aligned.Goals as goal

pub returns : goal.returns
returns c = raw_bounds_aligned
