use Rattle.std.proofs.Common.{◌∙◌}
use Rattle.conditions.proofs.FormulaLemmas.{made_of}
use Rattle.condition_texts.proofs.condition.read_condition.Goals as goal

pub of-requires : goal.of-requires
of-requires c = made_of c.in-Ok.ensures.0 c.as_slice-in-Ok.result.now (c.as_slice-in-Ok.ensures.value ∙ c.in-Ok.ensures.2)
