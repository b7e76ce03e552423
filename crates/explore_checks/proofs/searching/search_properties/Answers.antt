use Rattle.states.specs.Searches.{search_of}
use Rattle.explore_checks.proofs.CheckLemmas.{searched_is}
use Rattle.explore_checks.proofs.searching.search_properties.Goals as goal

pub returns : goal.returns
returns g c =
    searched_is (search_of c.args.search.now) c.args.properties.now c.in_ok-watches_of.field-0 c.in_ok-kept.kept
    c.in_ok-searched.searched.kept c.in_ok-searched.searched.endless c.one_asks.result c.in_ok-watches_of.ensures
    c.in_ok-kept.ensures.kept_of c.in_ok-kept.ensures.limit c.in_ok-searched.ensures.same c.len-count.ensures.search c.one_asks.ensures
    c.in_ok-searched.ensures.endless
