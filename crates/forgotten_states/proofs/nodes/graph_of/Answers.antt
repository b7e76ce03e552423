use Rattle.std.proofs.Common.{sym, ◌∙◌, subst}
use Rattle.explore_sights.specs.declared.sights.Sight.{Sight}
use Rattle.explore_sights.specs.Sights.{hides}
use Rattle.forgotten_turns.specs.ForgottenTurns.{HidesForgotten}
use Rattle.forgotten_states.proofs.nodes.graph_of.Goals as goal

pub new-requires-3-clause-hidden : goal.new-requires-3-clause-hidden
new-requires-3-clause-hidden c =
    subst (λ (sight : Sight). HidesForgotten c.args.turns.live.now (hides sight))
    (sym (c.in_ok-graph.ensures.sight ∙ c.in_ok-sight.ensures)) (λ before after. c.requires.hidden before after)
