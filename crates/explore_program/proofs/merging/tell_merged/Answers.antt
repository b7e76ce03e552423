use Rattle.explore_program.proofs.merging.tell_merged.Goals as goal

pub returns : goal.returns
returns c = record {
  text_is = c.in_ok-text.ensures;
  told = c.in_ok-told.told.items;
  are_told = record {
    are_these = rw c.properties-properties.ensures at c.in_ok-told.ensures.properties;
    are_decided = rw (c.drawing.ensures, c.properties-properties.ensures, c.decided-decided.ensures.decided, c.checked.ensures, c.slice-slice.ensures.whole, c.image-image.ensures, c.listing.ensures) at c.in_ok-told.ensures.told;
  };
  ending_is = rw c.as_slice.ensures.value at c.sample_ending.ensures;
}
