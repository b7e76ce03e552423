use Rattle.std.proofs.Common.{ℕ, subst}
use Rattle.authorities.specs.Authorities.{AreGreatest}
use Rattle.forgotten_states.specs.Surveys.{at}
use Rattle.alike_authority.specs.GroupRights.{group_values}
use Rattle.alike_authority.proofs.ListLemmas.{hart_list_is}
use Rattle.alike_authority.proofs.told.hart_list.Goals as goal

pub returns : goal.returns
returns c =
    let survey = c.args.survey.now in
    hart_list_is survey c.len-count.ensures.survey c.requires.rights c.as_slice.result.now c.args.groups.now c.args.hart
    c.hart_list_told.result c.requires.whole c.requires.hart
    (rw c.as_slice.ensures.value
    (subst (λ (n : ℕ). AreGreatest (at survey) (group_values c.args.groups.now c.args.hart n) c.in_ok-list.list.items)
    c.requires.count (c.in_ok-list.ensures (at survey) (λ number. c.requires.lists number))))
    c.hart_list_told.ensures
