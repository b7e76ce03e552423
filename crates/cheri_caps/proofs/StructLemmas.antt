-- Structs and the values that they mean.
use Rattle.std.proofs.Common.{◌≡◌, ◌/◌, ◌%◌, ◌^◌, refl, ap, arith}
use Rattle.cap_model.specs.values.Capability.{word_of}
use Rattle.cap_model.specs.values.CapValue.{CapValue, valid, raw, bits_of, tag_of, IsLawfulValue}
use Rattle.cap_model.specs.results.EditedWords.{word_of_halves}
use Rattle.cap_model.proofs.Words.WordsBack.{capability_at_word_of, encoding_of}
use Rattle.cap_ops.specs.Tagged.{value_from}
use Rattle.cap_ops.proofs.Encodings.{encoding_passes}
use Rattle.cheri_caps.specs.Structs.{value_of, struct_of}

-- a value comes back from its tag and its word
value_from_own : (v : CapValue) → IsLawfulValue v → value_from (tag_of v) (bits_of v) ≡ v
unfolding value_from
value_from_own (valid c) h = rw (encoding_passes (word_of c) (encoding_of c h)) (ap valid (capability_at_word_of c h))
value_from_own (raw word) h = refl

pub struct_read_back : (v : CapValue) → IsLawfulValue v → value_of (struct_of v) ≡ v
unfolding value_of struct_of
struct_read_back v h =
    let halves : word_of_halves (bits_of v / 2 ^ 64) (bits_of v % 2 ^ 64) ≡ bits_of v = omega arith in
    rw halves (value_from_own v h)
