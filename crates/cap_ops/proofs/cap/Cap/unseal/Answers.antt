use Rattle.std.proofs.Common.{◌∙◌, refl}
use Rattle.cap_model.proofs.Results.FieldResultsMade.{unseal-result}
use Rattle.cap_ops.proofs.BoundsFields.{otype_stays, perms_stay}
use Rattle.cap_ops.proofs.Made.{upper_word, made_tagged, made_value}
use Rattle.cap_ops.proofs.cap.Cap.unseal.Goals as goal

pub edited-requires-clause-tagged : goal.edited-requires-clause-tagged
edited-requires-clause-tagged c =
    made_tagged _ _ _ _ _ (unseal-result c.args.self c.args.authority c.may_unseal-kept.ensures.lawful) c.may_unseal-kept.ensures.value
    (upper_word _ _ _ _ (rw (c.with_otype.ensures, c.high.ensures.value, c.unsealed_perms-perms.ensures.value) at c.with_perms-upper.ensures) refl)

pub edited-requires-clause-bounds : goal.edited-requires-clause-bounds
edited-requires-clause-bounds c = rw (c.with_perms-upper.ensures, c.with_otype.ensures, c.high.ensures.value) (perms_stay _ _ ∙ otype_stays _ _)

pub returns : goal.returns
returns c =
    c.edited.ensures
    ∙ made_value _ _ _ _ _ (unseal-result c.args.self c.args.authority c.may_unseal-kept.ensures.lawful) c.may_unseal-kept.ensures.value
    (upper_word _ _ _ _ (rw (c.with_otype.ensures, c.high.ensures.value, c.unsealed_perms-perms.ensures.value) at c.with_perms-upper.ensures) refl)
