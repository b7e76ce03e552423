use Rattle.std.proofs.Common.{◌∙◌}
use Rattle.cheri_model.proofs.Runs.Advances.{target_is, target_stays}
use Rattle.hart.proofs.next_pcc.at_target.Goals as goal

pub at-requires-clause-kept : goal.at-requires-clause-kept
at-requires-clause-kept c =
    target_stays c.args.pcc c.args.target c.tag-lawful.ensures.lawful c.requires.open c.requires.within

pub returns : goal.returns
returns c =
    c.at.ensures ∙ target_is c.args.pcc c.args.target c.tag-lawful.ensures.lawful c.requires.open c.requires.within
