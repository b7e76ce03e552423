use Rattle.states.proofs.search.turns_of.Goals as goal

pub returns : goal.returns
returns c = record {
  image_is = c.in_ok-image.ensures;
  sweeps_are = c.in_ok-sweeps.ensures.items;
  sight_is = c.in_ok-sight.ensures;
}
