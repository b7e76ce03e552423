use Rattle.explore_program.proofs.sampling.tell.Goals as goal

pub returns : goal.returns
returns c = record {
  told = c.in_ok-told.told.items;
  are_these = c.in_ok-told.ensures.properties;
  are_decided = rw c.decided.ensures.decided at c.in_ok-told.ensures.told;
  text_is = rw (c.as_slice.ensures.value, c.tally.ensures.sum) at c.in_ok-text.ensures;
  ending_is = rw c.as_slice-2.ensures.value at c.sample_ending.ensures;
}
