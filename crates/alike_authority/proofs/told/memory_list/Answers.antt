use Rattle.std.proofs.Common.{ℕ, subst}
use Rattle.std.specs.Prelude.{Option}
use Rattle.authorities.specs.Authorities.{AreGreatest, memory_values}
use Rattle.cheri_model.specs.runs.Machine.{MachineState}
use Rattle.alike_authority.proofs.ListLemmas.{memory_list_is, rows_meant}
use Rattle.alike_authority.proofs.told.memory_list.Goals as goal

pub greatest_of-requires-clause-meant : goal.greatest_of-requires-clause-meant
greatest_of-requires-clause-meant c =
    rows_meant c.args.survey.now c.len-count.ensures.survey _ _ c.rows-rows.ensures.states c.rows-rows.ensures.count

pub returns : goal.returns
returns c =
    memory_list_is c.args.survey.now c.len-count.ensures.survey c.requires.rights c.as_slice.result.now
    c.memory_list_told.result (λ reg. c.requires.asked reg)
    (rw c.as_slice.ensures.value
    (subst (λ (found : ℕ → Option MachineState). AreGreatest found memory_values c.in_ok-list.list.items)
    c.rows-rows.ensures.states c.in_ok-list.ensures))
    c.memory_list_told.ensures
