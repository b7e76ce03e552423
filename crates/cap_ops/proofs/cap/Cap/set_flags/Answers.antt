use Rattle.std.proofs.Common.{◌∙◌, refl}
use Rattle.cap_model.proofs.Results.FieldResultsMade.{set_flags-result}
use Rattle.cap_ops.proofs.BoundsFields.{flag_stays}
use Rattle.cap_ops.proofs.Made.{upper_word, made_tagged, made_value}
use Rattle.cap_ops.proofs.cap.Cap.set_flags.Goals as goal

pub edited-requires-clause-tagged : goal.edited-requires-clause-tagged
edited-requires-clause-tagged c =
    made_tagged _ _ _ _ _ (set_flags-result c.args.self c.args.flags c.is_open.ensures.lawful) c.is_open.ensures.value
    (upper_word _ _ _ _ (rw (c.high.ensures.value) at c.with_flag.ensures) refl)

pub edited-requires-clause-bounds : goal.edited-requires-clause-bounds
edited-requires-clause-bounds c = rw (c.with_flag.ensures, c.high.ensures.value) (flag_stays _ _)

pub returns : goal.returns
returns c =
    c.edited.ensures
    ∙ made_value _ _ _ _ _ (set_flags-result c.args.self c.args.flags c.is_open.ensures.lawful) c.is_open.ensures.value
    (upper_word _ _ _ _ (rw (c.high.ensures.value) at c.with_flag.ensures) refl)
