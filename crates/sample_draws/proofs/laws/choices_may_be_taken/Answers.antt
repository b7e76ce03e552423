use Rattle.sample_draws.proofs.DrawingLemmas.{drawing_within}
use Rattle.sample_draws.proofs.ChoiceLemmas.{chosen_may}
use Rattle.sample_draws.proofs.laws.choices_may_be_taken.Goals as goal

pub returns : goal.returns
returns c = λ drawing state draws is over.
    chosen_may state drawing.sweeps draws (drawing_within drawing is).ranges over
