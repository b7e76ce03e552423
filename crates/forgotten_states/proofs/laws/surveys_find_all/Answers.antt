use Rattle.forgotten_states.proofs.SurveyLemmas.{none_passes}
use Rattle.forgotten_states.proofs.laws.surveys_find_all.Goals as goal

pub returns : goal.returns
returns c survey passing is done keeps same renamed none order allowed legal =
    none_passes survey is done passing keeps (λ t. same t) (λ one other r. renamed one other r) none order allowed legal
