use Rattle.hart.proofs.SweptHarts.{value_kept, value_cleared}
use Rattle.std.proofs.Common.{◌∙◌}
use Rattle.hart.proofs.hart.sweep_value.Goals as goal

pub returns-then-not-is_in_sweep-clause-swept : goal.returns-then-not-is_in_sweep-clause-swept
returns-then-not-is_in_sweep-clause-swept c = value_kept _ _ _ _ c.is_in_sweep.ensures.value c.if-not-is_in_sweep.true

pub returns-clause-swept : goal.returns-clause-swept
returns-clause-swept c = c.clear_tag.ensures ∙ value_cleared _ _ _ _ c.is_in_sweep.ensures.value c.if-not-is_in_sweep.false
