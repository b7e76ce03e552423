use Rattle.forgotten_states.proofs.SurveyLemmas.{all_there, stopped_there}
use Rattle.forgotten_states.proofs.laws.surveys_have_ends.Goals as goal

pub returns-clause-all : goal.returns-clause-all
returns-clause-all c survey order is done allowed legal = all_there survey is done order allowed legal

pub returns-clause-stopped : goal.returns-clause-stopped
returns-clause-stopped c survey order is done allowed legal stopped =
    stopped_there survey is done order allowed legal stopped
