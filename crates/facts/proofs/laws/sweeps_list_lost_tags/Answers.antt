use Rattle.facts.proofs.SweptTags.{tags_lost, tags_counted}
use Rattle.facts.proofs.laws.sweeps_list_lost_tags.Goals as goal

pub returns-clause-listed : goal.returns-clause-listed
returns-clause-listed c = tags_lost

pub returns-clause-counted : goal.returns-clause-counted
returns-clause-counted c = tags_counted
