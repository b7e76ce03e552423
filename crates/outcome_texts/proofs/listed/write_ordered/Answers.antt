use Rattle.std.proofs.Common.{refl}
use Rattle.outcome_texts.proofs.PartLemmas.{outcome_written}
use Rattle.outcome_texts.proofs.listed.write_ordered.Goals as goal

pub returns : goal.returns
returns c =
    outcome_written c.write_after.result _ _ _ _ _ _ _ _ c.in_ok-write_before.ensures c.in_ok-write_state.ensures refl
    c.write_after.ensures
