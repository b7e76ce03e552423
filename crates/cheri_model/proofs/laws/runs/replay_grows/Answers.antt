use Rattle.cheri_model.proofs.Runs.Replays.{IsReplay-opening, IsReplay_push}
use Rattle.cheri_model.proofs.laws.runs.replay_grows.Goals as goal

pub returns-clause-opening : goal.returns-clause-opening
returns-clause-opening c = IsReplay-opening

pub returns-clause-one_more : goal.returns-clause-one_more
returns-clause-one_more c = IsReplay_push
