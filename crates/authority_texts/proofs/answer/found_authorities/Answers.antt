use Rattle.states.specs.Searches.{search_of}
use Rattle.explore_sights.specs.declared.sights.Sight.TheVariants.{Rights}
use Rattle.authority_texts.proofs.AnswerLemmas.{found_is, kept_as}
use Rattle.authority_texts.proofs.RestLemmas.{hart_rests}
use Rattle.authority_texts.proofs.answer.found_authorities.Goals as goal

pub returns-clause-kept_of : goal.returns-clause-kept_of
returns-clause-kept_of g c =
    kept_as (search_of c.args.search.now) Rights c.in_ok-kept.kept c.authorities_of.result c.authorities_of.ensures.kept
    c.in_ok-kept.ensures.kept_of

pub returns-clause-found : goal.returns-clause-found
returns-clause-found g c =
    found_is c.in_ok-kept.kept c.authorities_of.result c.is_complete-complete.result c.authorities_of.ensures.kept
    c.authorities_of.ensures.harts c.authorities_of.ensures.hart c.authorities_of.ensures.memory
    c.is_complete-complete.ensures.complete c.is_complete-complete.ensures.all
    (λ n. hart_rests c.in_ok-kept.kept c.args.search.now.every_step n c.in_ok-kept.ensures.kept_of.sight_is)
