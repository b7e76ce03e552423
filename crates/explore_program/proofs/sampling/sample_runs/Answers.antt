use Rattle.std.proofs.Common.{refl}
use Rattle.explore_line.specs.Samples.{sample_asked_by}
use Rattle.sample_tallies.specs.Tallies.{numbers_from}
use Rattle.explore_program.specs.Samples.{sampling_of}
use Rattle.explore_program.proofs.SampleLemmas.{all_told, as_many_decided}
use Rattle.explore_program.proofs.sampling.sample_runs.Goals as goal

pub tell-requires-clause-as_many : goal.tell-requires-clause-as_many
tell-requires-clause-as_many g c =
    as_many_decided c.args.sampling.image.now c.args.sampling.drawing.now c.args.sampling.properties.now
    (numbers_from c.args.request.now.first c.args.request.now.orders) c.in_ok-counted.counted.decided
    (rw c.from.ensures at c.in_ok-counted.ensures.decided)

pub returns : goal.returns
returns g c =
    all_told (sample_asked_by c.args.request.now) (sampling_of c.args.sampling c.args.items) c.format_of.result _ _ _ c.tell.result
    c.format_of.ensures (rw c.span_asked.ensures refl) (rw c.from.ensures at c.in_ok-counted.ensures.sum)
    (rw c.from.ensures at c.in_ok-counted.ensures.decided) c.tell.ensures
