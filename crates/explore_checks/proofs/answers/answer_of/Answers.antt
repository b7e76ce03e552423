use Rattle.states.specs.Searches.{search_of}
use Rattle.explore_checks.proofs.CheckLemmas.{answer_is, searched_seen}
use Rattle.explore_checks.proofs.answers.answer_of.Goals as goal

pub judge_all-requires : goal.judge_all-requires
judge_all-requires c = record {
  seen =
      searched_seen (search_of c.args.search.now) c.args.properties.now c.args.searched.now.kept c.args.searched.now.endless c.requires.found;
}

pub returns : goal.returns
returns c =
    answer_is (search_of c.args.search.now) c.args.properties.now c.args.format c.args.searched.now.kept c.args.searched.now.endless
    c.in_ok-told.told.items _ _ _ _ _ _ _ _ _ _ c.requires.found c.in_ok-told.ensures c.as_slice.ensures.value c.as_slice-3.ensures.value
    c.as_slice-2.ensures.value c.head.ensures.reduced c.head.ensures.complete c.head.ensures.image c.head.ensures.states c.in_ok-text.ensures
    c.ending_of-ending.ensures c.in_ok-orders.ensures
