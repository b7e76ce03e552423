use Rattle.std.proofs.Common.{◌≡◌, ◌∙◌, ℕ, ap, subst}
use Rattle.std.specs.Prelude.{Option, is_some, not, false}
use Rattle.states.specs.Kept.{IsFirstPassing}
use Rattle.states.specs.Searches.{search_of}
use Rattle.states.proofs.KeptLemmas.{all_kept}
use Rattle.states.proofs.SearchLemmas.{none_of_search, none_so_far}
use Rattle.states.proofs.search.find_from.Goals as goal

pub returns-clause-kept_of : goal.returns-clause-kept_of
returns-clause-kept_of g c = record {
  image_is = c.loop-kept.invariant.image;
  sweeps_are = c.loop-kept.invariant.sweeps;
  sight_is = c.loop-kept.invariant.sight;
}

pub returns-clause-none : goal.returns-clause-none
returns-clause-none g c none done =
    let kept = c.loop-kept.kept in
    let passing = g.T.StateTest.passing c.args.test.now in
    none_of_search (search_of c.args.search.now) c.args.sees.now kept passing (returns-clause-kept_of g c) c.requires.unseen
    (all_kept kept c.len-count.ensures.search done)
    (subst (λ (o : Option ℕ). IsFirstPassing kept passing o) none c.loop-kept.invariant.first)

pub first_passing-state-requires-in-loop-kept : goal.first_passing-state-requires-in-loop-kept
first_passing-state-requires-in-loop-kept g c =
    let none : is_some c.loop-kept.state ≡ false = c.is_none.ensures ∙ ap not c.loop-kept-test.true in
    none_so_far c.loop-kept.kept c.in_ok-kept-2.kept (g.T.StateTest.passing c.args.test.now) c.loop-kept.state c.len-looked_at.result
    c.in_ok-kept-2.ensures.numbers c.loop-kept.invariant.first none c.len-looked_at.ensures.count
