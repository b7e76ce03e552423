use Rattle.std.proofs.Common.{ap, ◌∙◌, List, ℕ, Bor}
use Rattle.std.specs.Prelude.{option_map}
use Rattle.std.proofs.lemmas.Option.{slice_get-get_or, slice_get-map}
use Rattle.sample_merges.proofs.merging.line_at.Goals as goal

pub returns : goal.returns
returns c =
    slice_get-map (λ (line : Bor (List ℕ)). line.now) c.args.lines.now c.args.place
    ∙ ap (option_map (λ (line : Bor (List ℕ)). line.now)) (slice_get-get_or c.args.lines.now c.args.place _ c.requires)
