use Rattle.outcome_texts.specs.OutcomeParts.{listed_parts, listed_whole}
use Rattle.outcome_texts.proofs.PartLemmas.{in_three}
use Rattle.outcome_texts.proofs.listed.listed_text.Goals as goal

pub returns : goal.returns
unfolding listed_parts listed_whole
returns c =
    in_three _ _ _ _ _ _ _ c.new-out.ensures.bytes c.in_ok-write_head.ensures c.in_ok-write_outcomes.ensures
    c.in_ok-write_tail.ensures
