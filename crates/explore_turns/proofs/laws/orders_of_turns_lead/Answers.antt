use Rattle.explore_turns.proofs.OrderLemmas.{turns_lead}
use Rattle.cheri_model.specs.runs.Replay.{replayed_state}
use Rattle.explore_turns.proofs.laws.orders_of_turns_lead.Goals as goal

pub returns-clause-allowed : goal.returns-clause-allowed
returns-clause-allowed c image sweeps sight labels ops t are walk = (turns_lead image sweeps sight labels ops t are walk).allowed

pub returns-clause-legal : goal.returns-clause-legal
returns-clause-legal c image sweeps sight labels ops t are walk = (turns_lead image sweeps sight labels ops t are walk).legal

pub returns-clause-leads : goal.returns-clause-leads
unfolding replayed_state
returns-clause-leads c image sweeps sight labels ops t are walk = (turns_lead image sweeps sight labels ops t are walk).leaves
