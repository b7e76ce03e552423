use Rattle.std.specs.Prelude.{take}
use Rattle.cheri_model.specs.runs.Replay.{replayed_state}
use Rattle.origins.specs.Origins.{replayed_origins}
use Rattle.explained_page.proofs.PlainTexts.{script_text_plain}
use Rattle.explained_page.proofs.PlainFacts.{explanation_plain, state_plain}
use Rattle.explained_page.proofs.laws.texts_end_no_element.Goals as goal

pub returns-clause-explanation : goal.returns-clause-explanation
returns-clause-explanation c = explanation_plain

pub returns-clause-state : goal.returns-clause-state
returns-clause-state c = λ image count order. state_plain (replayed_origins image (take count order)) (replayed_state image (take count order))

pub returns-clause-listing : goal.returns-clause-listing
returns-clause-listing c = script_text_plain
