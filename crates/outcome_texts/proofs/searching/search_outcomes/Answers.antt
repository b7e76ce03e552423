use Rattle.states.specs.Searches.{search_of}
use Rattle.outcome_texts.proofs.AnswerLemmas.{searched_is}
use Rattle.outcome_texts.proofs.searching.search_outcomes.Goals as goal

pub returns : goal.returns
returns g c =
    searched_is (search_of c.args.search.now) c.in_ok-kept.kept c.in_ok-judged.judged.kept c.in_ok-judged.judged.endless
    c.in_ok-outcomes.outcomes.items c.is_complete-complete.result c.in_ok-kept.ensures.kept_of c.in_ok-kept.ensures.limit
    c.in_ok-judged.ensures.same c.len-count.ensures.search c.in_ok-judged.ensures.endless c.in_ok-outcomes.ensures
    c.is_complete-complete.ensures.complete c.is_complete-complete.ensures.all
