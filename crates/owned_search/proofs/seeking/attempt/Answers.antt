use Rattle.std.proofs.Common.{◌≡◌, ◌∙◌, ℕ, List, Bool, length, ap, rules, sym, subst}
use Rattle.std.specs.Prelude.{Option, None, IfSome}
use Rattle.cheri_model.specs.runs.Image.{ImageParts}
use Rattle.cheri_model.specs.runs.Machine.{opening_state}
use Rattle.explore_sights.specs.declared.sights.Sight.{Sight}
use Rattle.explore_sights.specs.Sights.{hides}
use Rattle.forgotten_turns.specs.ForgottenTurns.{HidesForgotten}
use Rattle.live_registers.specs.LiveSets.{IsRight, LiveSets}
use Rattle.states.specs.Searches.{search_of}
use Rattle.owned_search.specs.Nodes.{IsFirstPassing, at}
use Rattle.owned_search.specs.Sought.{AreMoreShared}
use Rattle.owned_search.proofs.GraphLemmas.{graph_back, graph_on}
use Rattle.owned_search.proofs.SoughtLemmas.{count_within, found_passes, none_found, sought_none, sought_some}
use Rattle.owned_search.proofs.seeking.attempt.Goals as goal

pub into_judged-requires-clause-opening : goal.into_judged-requires-clause-opening
into_judged-requires-clause-opening g c = c.requires.opening ∙ ap opening_state (sym c.in_ok-first.ensures.graph.image_is)

pub returns-in_default-clause-answer : goal.returns-in_default-clause-answer
returns-in_default-clause-answer g c =
    let nodes = c.in_ok-first.first.nodes in
    let passing = g.T.StateTest.passing c.args.test.now in
    let none : c.in_ok-first.first.number ≡ None = first_of (cc, assumption, search rules) in
    sought_none (search_of c.args.search.now) c.args.matters.sees.now c.args.matters.live.now c.args.matters.shared.now passing nodes.graph
    c.in_ok-first.ensures.graph nodes.reached nodes.limit c.in_ok-first.ensures.nodes c.in_ok-first.ensures.within c.len-count.result
    c.in_ok-judged.judged.complete c.len-count.ensures (λ done. c.in_ok-judged.ensures.all done)
    (subst (λ (o : Option ℕ). IsFirstPassing (at nodes.graph nodes.reached) (length nodes.reached.nodes) passing o) none
    c.in_ok-first.ensures.first) (c.in_ok-first.ensures.all none)

pub returns-in_default-clause-none : goal.returns-in_default-clause-none
returns-in_default-clause-none g c same done order allowed legal =
    let nodes = c.in_ok-first.first.nodes in
    let passing = g.T.StateTest.passing c.args.test.now in
    let none : c.in_ok-first.first.number ≡ None = first_of (cc, assumption, search rules) in
    none_found (search_of c.args.search.now) c.args.matters.sees.now c.args.matters.live.now c.args.matters.shared.now passing nodes.graph
    c.in_ok-first.ensures.graph nodes.reached nodes.limit c.in_ok-first.ensures.nodes c.in_ok-first.ensures.within c.requires.right
    (λ before after. c.requires.hidden before after) (c.in_ok-judged.ensures.all done) (λ s l quiet. c.requires.unseen s l quiet)
    (λ s. c.requires.passing s)
    (subst (λ (o : Option ℕ). IsFirstPassing (at nodes.graph nodes.reached) (length nodes.reached.nodes) passing o) none
    c.in_ok-first.ensures.first) order allowed legal

pub returns-in_default-clause-limit : goal.returns-in_default-clause-limit
returns-in_default-clause-limit g c =
    let nodes = c.in_ok-first.first.nodes in
    count_within (search_of c.args.search.now) c.args.matters.sees.now c.args.matters.live.now c.args.matters.shared.now
    (g.T.StateTest.passing c.args.test.now) nodes.graph c.in_ok-first.ensures.graph nodes.reached nodes.limit c.in_ok-first.ensures.nodes
    c.in_ok-first.ensures.within c.len-count.result c.len-count.ensures

pub returns-in_default-clause-more : goal.returns-in_default-clause-more
returns-in_default-clause-more g c =
    graph_on c.args.search.now.image.now c.args.matters.sees.now c.args.matters.live.now c.args.matters.shared.now
    c.in_ok-first.first.nodes.graph c.in_ok-first.ensures.graph
    (λ (i : ImageParts) (x : Sight) (l : LiveSets) (bs : List Bool). IfSome c.in_ok-judged.judged.more (λ more. AreMoreShared bs more.items))
    c.in_ok-judged.ensures.more

pub order_to-requires-clause-right : goal.order_to-requires-clause-right
order_to-requires-clause-right g c =
    graph_back c.args.search.now.image.now c.args.matters.sees.now c.args.matters.live.now c.args.matters.shared.now
    c.in_ok-first.first.nodes.graph c.in_ok-first.ensures.graph
    (λ (i : ImageParts) (x : Sight) (l : LiveSets) (bs : List Bool). IsRight i.program l) c.requires.right

pub order_to-requires-clause-hidden : goal.order_to-requires-clause-hidden
order_to-requires-clause-hidden g c =
    graph_back c.args.search.now.image.now c.args.matters.sees.now c.args.matters.live.now c.args.matters.shared.now
    c.in_ok-first.first.nodes.graph c.in_ok-first.ensures.graph
    (λ (i : ImageParts) (x : Sight) (l : LiveSets) (bs : List Bool). HidesForgotten l (hides x))
    (λ before after. c.requires.hidden before after)

pub order_to-requires-clause-there : goal.order_to-requires-clause-there
order_to-requires-clause-there g c =
    let nodes = c.in_ok-first.first.nodes in
    let passing = g.T.StateTest.passing c.args.test.now in
    (subst (λ (o : Option ℕ). IsFirstPassing (at nodes.graph nodes.reached) (length nodes.reached.nodes) passing o) c.in-Some.is
    c.in_ok-first.ensures.first).0

pub returns-clause-answer : goal.returns-clause-answer
returns-clause-answer g c =
    let nodes = c.in_ok-first.first.nodes in
    let passing = g.T.StateTest.passing c.args.test.now in
    sought_some (search_of c.args.search.now) c.args.matters.sees.now c.args.matters.live.now c.args.matters.shared.now passing nodes.graph
    c.in_ok-first.ensures.graph nodes.reached nodes.limit c.in_ok-first.ensures.nodes c.in_ok-first.ensures.within c.in-Some.number
    c.in_ok-order.order.items c.len-count.result c.len-count.ensures
    (subst (λ (o : Option ℕ). IsFirstPassing (at nodes.graph nodes.reached) (length nodes.reached.nodes) passing o) c.in-Some.is
    c.in_ok-first.ensures.first) (λ s there. c.in_ok-order.ensures s there)

pub returns-clause-found : goal.returns-clause-found
returns-clause-found g c =
    let nodes = c.in_ok-first.first.nodes in
    let passing = g.T.StateTest.passing c.args.test.now in
    found_passes (search_of c.args.search.now) c.args.matters.sees.now c.args.matters.live.now c.args.matters.shared.now passing nodes.graph
    c.in_ok-first.ensures.graph nodes.reached nodes.limit c.in_ok-first.ensures.nodes c.in_ok-first.ensures.within
    (λ s. c.requires.passing s) c.in-Some.number c.in_ok-order.order.items
    (subst (λ (o : Option ℕ). IsFirstPassing (at nodes.graph nodes.reached) (length nodes.reached.nodes) passing o) c.in-Some.is
    c.in_ok-first.ensures.first) (λ s there. c.in_ok-order.ensures s there)

pub returns-clause-limit : goal.returns-clause-limit
returns-clause-limit g c =
    let nodes = c.in_ok-first.first.nodes in
    count_within (search_of c.args.search.now) c.args.matters.sees.now c.args.matters.live.now c.args.matters.shared.now
    (g.T.StateTest.passing c.args.test.now) nodes.graph c.in_ok-first.ensures.graph nodes.reached nodes.limit c.in_ok-first.ensures.nodes
    c.in_ok-first.ensures.within c.len-count.result c.len-count.ensures
