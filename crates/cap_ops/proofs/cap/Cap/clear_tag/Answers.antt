use Rattle.std.proofs.Common.{◌≡◌, ◌/◌, ◌%◌, ◌^◌, arith, ap, ◌∙◌, refl}
use Rattle.cap_model.specs.values.CapValue.{bits_of, raw}
use Rattle.cap_model.specs.results.EditedWords.{word_of_halves}
use Rattle.cap_ops.proofs.Unpacking.{untagged_word}
use Rattle.cap_ops.proofs.cap.Cap.clear_tag.Goals as goal

pub edited-requires-clause-tagged : goal.edited-requires-clause-tagged
edited-requires-clause-tagged c = let high = c.high.ensures.value in untagged_word _ (omega arith)

pub edited-requires-clause-bounds : goal.edited-requires-clause-bounds
edited-requires-clause-bounds c = rw c.high.ensures.value refl

pub returns : goal.returns
returns c =
    let whole : word_of_halves (bits_of c.args.self / 2 ^ 64) (bits_of c.args.self % 2 ^ 64) ≡ bits_of c.args.self = omega arith in
    (rw c.high.ensures.value at c.edited.ensures) ∙ ap raw whole
