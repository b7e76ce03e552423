use Rattle.states.specs.Searches.{search_of}
use Rattle.states.proofs.SearchLemmas.{turns_in}
use Rattle.states.proofs.search.graph_of_turns.Goals as goal

pub new-requires-clause-few : goal.new-requires-clause-few
new-requires-clause-few c = rw c.in_ok-turns.ensures.sweeps_are c.requires.few

pub new-requires-clause-size : goal.new-requires-clause-size
new-requires-clause-size c = rw (c.in_ok-ram.ensures, c.in_ok-turns.ensures.image_is) c.requires.size

pub returns-clause-turns : goal.returns-clause-turns
returns-clause-turns c =
    turns_in (search_of c.args.search.now) c.args.sees.now (λ g. g.image) (λ g. g.sweeps) (λ g. g.sight) c.in_ok-turns.turns.image
    c.in_ok-turns.turns.sweeps.items c.in_ok-turns.turns.sight c.new.result c.new.ensures.image c.new.ensures.sweeps c.new.ensures.sight
    c.in_ok-turns.ensures
