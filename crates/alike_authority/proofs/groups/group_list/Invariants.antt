-- the greatest of what the harts so far hold
use Rattle.std.proofs.Common.{ℕ}
use Rattle.std.specs.Prelude.{IfSome, Option, slice_get}
use Rattle.authorities.specs.Authorities.{AreGreatest, hart_values}
use Rattle.cheri_model.specs.runs.Machine.{MachineState}
use Rattle.alike_authority.specs.GroupRights.{group_values}
use Rattle.alike_authority.proofs.groups.group_list.Given as goal

abbrev pub invariant-loop-other : goal.invariant-loop-other
invariant-loop-other l = (found : ℕ → Option MachineState) →
    ((number : ℕ) → IfSome (slice_get l.lists number) (λ own. AreGreatest found (hart_values number) own.items)) →
    AreGreatest found (group_values l.groups l.hart l.other) l.greatest.items
