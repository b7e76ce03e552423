use Rattle.std.proofs.Common.{length}
use Rattle.forgotten_states.specs.Surveys.{at}
use Rattle.alike_authority.specs.AlikeAuthority.{IsHartTold}
use Rattle.alike_authority.specs.GroupRights.{group_values}
use Rattle.alike_authority.proofs.ToldLemmas.{held_at, told_step}
use Rattle.alike_authority.proofs.told.hart_list_told.Goals as goal

pub hart_told-requires-clause-held : goal.hart_told-requires-clause-held
hart_told-requires-clause-held c =
    held_at (at c.args.survey.now) (group_values c.args.groups.now c.args.hart (length c.args.survey.now.image.harts))
    c.args.list.now c.loop-authority.authority-index _ c.requires.greatest c.loop-authority-test.true

pub loop-authority-preserved : goal.loop-authority-preserved
loop-authority-preserved c =
    told_step (IsHartTold c.args.survey.now c.args.hart) c.args.list.now c.loop-authority.authority-index _
    c.loop-authority.told.items _ c.in_ok-hart_told.field-0 c.loop-authority-test.true c.in_ok-push.ensures.items
    c.loop-authority.invariant c.in_ok-hart_told.ensures
