use Rattle.std.proofs.Common.{◌∙◌, refl}
use Rattle.cap_model.proofs.Results.FieldResultsMade.{seal_entry-result}
use Rattle.cap_ops.proofs.BoundsFields.{otype_stays}
use Rattle.cap_ops.proofs.Made.{upper_word, made_tagged, made_value}
use Rattle.cap_ops.proofs.cap.Cap.seal_entry.Goals as goal

pub edited-requires-clause-tagged : goal.edited-requires-clause-tagged
edited-requires-clause-tagged c =
    made_tagged _ _ _ _ _ (seal_entry-result c.args.self c.may_seal_entry-kept.ensures.lawful) c.may_seal_entry-kept.ensures.value
    (upper_word _ _ _ _ (rw (c.high.ensures.value) at c.with_otype.ensures) refl)

pub edited-requires-clause-bounds : goal.edited-requires-clause-bounds
edited-requires-clause-bounds c = rw (c.with_otype.ensures, c.high.ensures.value) (otype_stays _ _)

pub returns : goal.returns
returns c =
    c.edited.ensures
    ∙ made_value _ _ _ _ _ (seal_entry-result c.args.self c.may_seal_entry-kept.ensures.lawful) c.may_seal_entry-kept.ensures.value
    (upper_word _ _ _ _ (rw (c.high.ensures.value) at c.with_otype.ensures) refl)
