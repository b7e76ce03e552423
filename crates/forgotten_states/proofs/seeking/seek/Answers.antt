use Rattle.std.proofs.Common.{◌≡◌, ◌∙◌, ℕ, length, rules, sym, subst}
use Rattle.std.specs.Prelude.{Option, None}
use Rattle.states.specs.Searches.{search_of}
use Rattle.forgotten_states.specs.Nodes.{IsFirstPassing, at}
use Rattle.forgotten_states.proofs.NodeLemmas.{none_passes}
use Rattle.forgotten_states.proofs.SoughtLemmas.{found_passes, sought_none, sought_some}
use Rattle.forgotten_states.proofs.seeking.seek.Goals as goal

pub returns-in_default-clause-none : goal.returns-in_default-clause-none
returns-in_default-clause-none g c same done order allowed legal =
    let nodes = c.in_ok-first.first.nodes in
    let passing = g.T.StateTest.passing c.args.test.now in
    let none : c.in_ok-first.first.number ≡ None = first_of (cc, assumption, search rules) in
    none_passes c.args.search.now.image.now c.args.matters.sees.now c.args.matters.live.now c.args.matters.groups c.requires.right
    (λ before after. c.requires.hidden before after) (at nodes.graph nodes.reached)
    (c.in_ok-first.ensures.nodes.nodes.complete (sym c.is_complete-complete.ensures ∙ done)) passing
    c.requires.unseen (λ s. c.requires.passing s) (λ one other r. c.requires.renamed one other r)
    (subst (λ (o : Option ℕ). IsFirstPassing (at nodes.graph nodes.reached) (length nodes.reached.nodes) passing o) none
    c.in_ok-first.ensures.first) order allowed legal

pub returns-in_default-clause-answer : goal.returns-in_default-clause-answer
returns-in_default-clause-answer g c =
    let nodes = c.in_ok-first.first.nodes in
    let passing = g.T.StateTest.passing c.args.test.now in
    let none : c.in_ok-first.first.number ≡ None = first_of (cc, assumption, search rules) in
    sought_none (search_of c.args.search.now) c.args.matters.sees.now c.args.matters.live.now c.args.matters.groups passing nodes.graph nodes.reached nodes.limit
    c.in_ok-first.ensures.nodes c.in_ok-first.ensures.within c.len-count.result c.is_complete-complete.result c.len-count.ensures
    c.is_complete-complete.ensures
    (subst (λ (o : Option ℕ). IsFirstPassing (at nodes.graph nodes.reached) (length nodes.reached.nodes) passing o) none
    c.in_ok-first.ensures.first) (c.in_ok-first.ensures.all none)

pub returns-clause-answer : goal.returns-clause-answer
returns-clause-answer g c =
    let nodes = c.in_ok-first.first.nodes in
    let passing = g.T.StateTest.passing c.args.test.now in
    sought_some (search_of c.args.search.now) c.args.matters.sees.now c.args.matters.live.now c.args.matters.groups passing nodes.graph nodes.reached nodes.limit
    c.in_ok-first.ensures.nodes c.in_ok-first.ensures.within c.in-Some.number c.in_ok-order.order.items c.len-count.result
    c.is_complete-complete.result c.len-count.ensures c.is_complete-complete.ensures
    (subst (λ (o : Option ℕ). IsFirstPassing (at nodes.graph nodes.reached) (length nodes.reached.nodes) passing o) c.in-Some.is
    c.in_ok-first.ensures.first) (λ s there. c.in_ok-order.ensures s there)

pub returns-clause-found : goal.returns-clause-found
returns-clause-found g c =
    let nodes = c.in_ok-first.first.nodes in
    let passing = g.T.StateTest.passing c.args.test.now in
    found_passes (search_of c.args.search.now) c.args.matters.sees.now c.args.matters.live.now c.args.matters.groups passing nodes.graph nodes.reached nodes.limit
    c.in_ok-first.ensures.nodes c.in_ok-first.ensures.within (λ s. c.requires.passing s)
    (λ one other r. c.requires.renamed one other r) c.in-Some.number c.in_ok-order.order.items
    (subst (λ (o : Option ℕ). IsFirstPassing (at nodes.graph nodes.reached) (length nodes.reached.nodes) passing o) c.in-Some.is
    c.in_ok-first.ensures.first) (λ s there. c.in_ok-order.ensures s there)
