use Rattle.std.proofs.Common.{◌∙◌, ap, false, map, refl}
use Rattle.forgotten_checks.specs.StateChecks.{IsCheckStatesAnswer}
use Rattle.explore_properties.specs.Reading.{properties_of}
use Rattle.grammar.specs.LabelMap.{label_parts}
use Rattle.listing_maps.specs.Names.{named}
use Rattle.program_io.proofs.EndingLemmas.{all_fail, all_whole}
use Rattle.states.specs.Searches.{search_of}
use Rattle.explore_program.specs.Faults.{own_failure}
use Rattle.explore_program.specs.Listings.{listed_of}
use Rattle.explore_program.specs.Questions.{IsCheckSaid, IsExplained, IsSaid, range_of, swept_by}
use Rattle.explore_program.proofs.QuestionLemmas.{check_asked, properties_fail}
use Rattle.explore_program.proofs.answers.answer_check.Goals as goal

pub returns-in-Err-clause-failed : goal.returns-in-Err-clause-failed
returns-in-Err-clause-failed g c =
    let search = search_of c.args.asking.search in
    rw c.property_fault.ensures
    (properties_fail (λ read. IsExplained c.args.asking.explained (listed_of c.args.asking.listed) search.image (IsCheckStatesAnswer c.args.asking.keeps (swept_by search read) read.properties c.args.asking.format))
    (properties_of (named (label_parts c.args.asking.labels.now) (listed_of c.args.asking.listed).sources) search.image c.args.asking.listed.text.now) c.in-Err.refused _ _ c.in-Err.ensures refl)

pub returns-clause-printed : goal.returns-clause-printed
returns-clause-printed g c =
    let search = search_of c.args.asking.search in
    all_whole (λ ending. ending) own_failure false
    (IsSaid (IsExplained c.args.asking.explained (listed_of c.args.asking.listed) search.image (IsCheckStatesAnswer c.args.asking.keeps (record search { sweeps = c.as_slice.result.now }) c.properties-properties.result.now c.args.asking.format)))
    (IsCheckSaid (label_parts c.args.asking.labels.now) (listed_of c.args.asking.listed) search c.args.asking.format c.args.asking.explained c.args.asking.keeps)
    (check_asked c.args.asking.keeps search c.args.asking.explained (listed_of c.args.asking.listed) c.as_slice.result.now c.in-Ok.read c.properties-properties.result.now c.args.asking.format
    (properties_of (named (label_parts c.args.asking.labels.now) (listed_of c.args.asking.listed).sources) search.image c.args.asking.listed.text.now) c.in-Ok.ensures
    (c.as_slice.ensures.value ∙ (c.in_ok-sweeps.ensures ∙ ap (map range_of) c.sweeps.ensures.sweeps)) c.properties-properties.ensures)
    _ _ c.ask.result c.ask.ensures.printed

pub returns-clause-failed : goal.returns-clause-failed
returns-clause-failed g c =
    let search = search_of c.args.asking.search in
    all_fail (λ ending. ending) own_failure false
    (IsSaid (IsExplained c.args.asking.explained (listed_of c.args.asking.listed) search.image (IsCheckStatesAnswer c.args.asking.keeps (record search { sweeps = c.as_slice.result.now }) c.properties-properties.result.now c.args.asking.format)))
    (IsCheckSaid (label_parts c.args.asking.labels.now) (listed_of c.args.asking.listed) search c.args.asking.format c.args.asking.explained c.args.asking.keeps)
    (check_asked c.args.asking.keeps search c.args.asking.explained (listed_of c.args.asking.listed) c.as_slice.result.now c.in-Ok.read c.properties-properties.result.now c.args.asking.format
    (properties_of (named (label_parts c.args.asking.labels.now) (listed_of c.args.asking.listed).sources) search.image c.args.asking.listed.text.now) c.in-Ok.ensures
    (c.as_slice.ensures.value ∙ (c.in_ok-sweeps.ensures ∙ ap (map range_of) c.sweeps.ensures.sweeps)) c.properties-properties.ensures)
    _ _ c.ask.result c.ask.ensures.failed
