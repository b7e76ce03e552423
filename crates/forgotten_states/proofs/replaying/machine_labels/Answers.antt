use Rattle.std.proofs.Common.{◌≡◌, ℕ, Vec, Global, ap, sym, ◌∙◌, subst, List}
use Rattle.std.specs.Prelude.{IfOk, slice_get}
use Rattle.hart_order.specs.GroupedTurns.{grouped_start, machine_labels}
use Rattle.hart_order.proofs.GroupedLemmas.{labels_ungrouped}
use Rattle.forgotten_states.proofs.NodeLemmas.{walk_below}
use Rattle.forgotten_states.proofs.replaying.machine_labels.Goals as goal

pub returns-then-is_ungrouped : goal.returns-then-is_ungrouped
returns-then-is_ungrouped c =
    sym (labels_ungrouped c.args.turns.groups (λ hart. c.is_ungrouped.ensures c.if-is_ungrouped.true hart) c.args.turns.image.now
    c.args.turns.sees.now c.args.turns.live.now c.requires.walk.0 c.args.labels.items c.requires.walk.1)

pub take_again-requires-clause-labels : goal.take_again-requires-clause-labels
take_again-requires-clause-labels c i label at =
    walk_below c.args.turns.image.now c.args.turns.sees.now c.args.turns.live.now c.args.turns.groups c.args.labels.items
    (grouped_start c.args.turns.image.now c.args.turns.sees.now c.args.turns.live.now c.args.turns.groups) c.requires.walk.0
    c.requires.walk.1 i label (ap (λ (ls : List ℕ). slice_get ls i) (sym c.as_slice.ensures.value) ∙ at)

pub returns : goal.returns
returns c =
    subst (λ (ls : List ℕ). IfOk c.take_again.result (λ (own : Vec ℕ Global). own.items
    ≡ machine_labels c.args.turns.image.now c.args.turns.sees.now c.args.turns.live.now c.args.turns.groups ls))
    c.as_slice.ensures.value c.take_again.ensures
