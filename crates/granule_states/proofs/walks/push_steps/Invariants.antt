-- so many steps were appended
use Rattle.std.proofs.Common.{◌≡◌, ◌++◌}
use Rattle.std.specs.Prelude.{replicate}
use Rattle.cheri_model.specs.declared.operation.Op.TheVariants as operation
use Rattle.granule_states.proofs.walks.push_steps.Given as goal

abbrev pub invariant-loop : goal.invariant-loop
invariant-loop l = l.order.items ≡ l.fn.order.items ++ replicate l.counter (operation.Step l.hart)
