use Rattle.std.proofs.Common.{◌≡◌, ap, rules}
use Rattle.sample_draws.specs.Drawings.{DrawingParts}
use Rattle.sample_merges.proofs.MergeLemmas.{same_drawing}
use Rattle.sample_merges.proofs.questions.are_alike.Goals as goal

pub returns : goal.returns
returns c =
    let seed : c.args.other.now.seed ≡ c.args.one.now.seed = search rules in
    let length : c.args.other.now.length ≡ c.args.one.now.length = search rules in
    let depth : c.args.other.now.depth ≡ c.args.one.now.depth = search rules in (
      λ t. same_drawing c.args.one.now c.args.other.now seed length depth (c.have_same_sweeps.ensures.0 t),
      λ e. c.have_same_sweeps.ensures.1 (ap (λ (d : DrawingParts). d.sweeps) e),
    )
