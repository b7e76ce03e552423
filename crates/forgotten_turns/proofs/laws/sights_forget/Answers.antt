use Rattle.forgotten_turns.proofs.SightLemmas.{condition_forgets, watches_forget}
use Rattle.forgotten_turns.proofs.laws.sights_forget.Goals as goal

pub returns-clause-condition : goal.returns-clause-condition
returns-clause-condition c = condition_forgets

pub returns-clause-watches : goal.returns-clause-watches
returns-clause-watches c program live watches right asked =
    watches_forget program live watches right (λ number watch at. asked number watch at)
