use Rattle.std.proofs.Common.{◌∙◌, refl}
use Rattle.cap_model.proofs.Results.FieldResultsMade.{and_perm-result}
use Rattle.cap_ops.proofs.BoundsFields.{perms_stay}
use Rattle.cap_ops.proofs.Made.{upper_word, made_tagged, made_value}
use Rattle.cap_ops.proofs.cap.Cap.and_perm.Goals as goal

pub edited-requires-clause-tagged : goal.edited-requires-clause-tagged
edited-requires-clause-tagged c =
    made_tagged _ _ _ _ _ (and_perm-result c.args.self c.args.mask c.is_open.ensures.lawful) c.is_open.ensures.value
    (upper_word _ _ _ _ (rw (c.high.ensures.value, c.from.ensures, c.permission_bits.ensures.value) at c.with_perms.ensures) refl)

pub edited-requires-clause-bounds : goal.edited-requires-clause-bounds
edited-requires-clause-bounds c = rw (c.with_perms.ensures, c.high.ensures.value) (perms_stay _ _)

pub returns : goal.returns
returns c =
    c.edited.ensures
    ∙ made_value _ _ _ _ _ (and_perm-result c.args.self c.args.mask c.is_open.ensures.lawful) c.is_open.ensures.value
    (upper_word _ _ _ _ (rw (c.high.ensures.value, c.from.ensures, c.permission_bits.ensures.value) at c.with_perms.ensures) refl)
