use Rattle.std.proofs.Common.{◌∙◌, ap, map}
use Rattle.page_searches.proofs.AskedLemmas.{check_answered}
use Rattle.page_searches.specs.Asked.{range_of}
use Rattle.page_searches.proofs.questions.ask_check.Goals as goal

pub returns : goal.returns
returns c =
    check_answered c.args.listing.now c.args.limit _ _ _ _ _ _
    c.in_ok-image.ensures.asked c.in_ok-labels.ensures c.in_ok-read.ensures
    (c.as_slice.ensures.value ∙ (c.in_ok-sweeps.ensures ∙ ap (map range_of) c.sweeps.ensures.sweeps)) c.properties.ensures
    c.in_ok-verdicts.ensures
