use Rattle.facts.proofs.Links.{link_tagged, unsealed_tag}
use Rattle.facts.proofs.laws.links_and_unsealed_values_keep_tags.Goals as goal

pub returns-clause-link : goal.returns-clause-link
returns-clause-link c = link_tagged

pub returns-clause-unsealed : goal.returns-clause-unsealed
returns-clause-unsealed c = unsealed_tag
