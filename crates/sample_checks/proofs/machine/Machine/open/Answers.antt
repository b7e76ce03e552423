use Rattle.std.proofs.Common.{◌∙◌}
use Rattle.sample_runs.proofs.OpenLemmas.{is_opened}
use Rattle.sample_checks.proofs.machine.Machine.open.Goals as goal

pub invariant_of-result : goal.invariant_of-result
invariant_of-result c =
    is_opened c.args.image.now c.in_ok-copy.field-0
    (record { harts = c.view-view.result.harts.now; memory = c.view-view.result.ram.now })
    c.in_ok-from_slice.field-0.items c.in_ok-harts.harts.items c.in_ok-memory.memory
    (c.view-view.ensures.state ∙ c.in_ok-core.ensures.opening) c.in_ok-copy.ensures c.in_ok-from_slice.ensures.items
    c.in_ok-harts.ensures.items c.in_ok-memory.ensures.opening c.in_ok-core.ensures.lawful
