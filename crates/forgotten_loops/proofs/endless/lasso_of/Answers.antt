use Rattle.std.proofs.Common.{◌≡◌, ◌≤◌, ℕ, List, [], ◌++◌, length, drop, ap, sym, ◌∙◌, subst}
use Rattle.std.proofs.lemmas.Option.{slice_get_within}
use Rattle.cheri_model.specs.declared.operation.Op.{Op}
use Rattle.cheri_model.specs.runs.Replay.{replayed_state}
use Rattle.explore_turns.specs.Orders.{AreOfHarts, order_of_turns, turns_from}
use Rattle.schedules.specs.Schedules.{AreLabelsOf}
use Rattle.forgotten_states.specs.Sought.{IsOrderTo}
use Rattle.forgotten_states.proofs.NodeLemmas.{turns_order}
use Rattle.forgotten_loops.proofs.CycleLemmas.{turns_go_on}
use Rattle.forgotten_loops.proofs.EndlessLemmas.{loop_labels}
use Rattle.forgotten_loops.proofs.endless.lasso_of.Goals as goal

pub turns_to-requires : goal.turns_to-requires
turns_to-requires c = record {
  there = slice_get_within c.args.survey.now.states c.args.found.now.node c.requires.loops.0 c.requires.loops.1;
}

pub operations-requires : goal.operations-requires
operations-requires c =
    rw c.as_slice.ensures.value (loop_labels c.args.survey.now c.len-count.ensures.survey
    (λ hart. c.requires.ungrouped hart) c.args.found.now c.requires.loops)

pub orders_of-requires : goal.orders_of-requires
orders_of-requires c =
    let survey = c.args.survey.now in
    let is = c.len-count.ensures.survey in
    let later : c.as_slice-2.result.now ≡ c.in_ok-later.later.items = c.as_slice-2.ensures.value in
    let on = turns_go_on survey.image survey.sight survey.live is.right (λ before after. is.hidden before after) survey.groups c.requires.loops.0
    c.in_ok-first.first.items c.in_ok-later.later.items c.as_slice.result.now (c.in_ok-first.ensures c.requires.loops.0 c.requires.loops.1)
    c.in_ok-later.ensures in
    record {
      first = on.first_of;
      whole = subst (λ (os : List Op). AreOfHarts survey.image (c.in_ok-first.first.items ++ os)) (sym later) on.all_of;
      longer = subst (λ (os : List Op). length (order_of_turns survey.image [] survey.sight c.in_ok-first.first.items)
          ≤ length (order_of_turns survey.image [] survey.sight (c.in_ok-first.first.items ++ os))) (sym later) on.longer;
    }

pub returns : goal.returns
returns c state there =
    let survey = c.args.survey.now in
    let is = c.len-count.ensures.survey in
    let later : c.as_slice-2.result.now ≡ c.in_ok-later.later.items = c.as_slice-2.ensures.value in
    let turns = c.in_ok-first.ensures state there in
    let on = turns_go_on survey.image survey.sight survey.live is.right (λ before after. is.hidden before after) survey.groups state
    c.in_ok-first.first.items c.in_ok-later.later.items c.as_slice.result.now turns c.in_ok-later.ensures in
    let before = order_of_turns survey.image [] survey.sight c.in_ok-first.first.items in (
      subst (λ (os : List Op). IsOrderTo survey.image survey.sight survey.live survey.groups state os) (sym c.in_ok-order.ensures.first)
          (turns_order survey.image survey.sight survey.live survey.groups is.right (λ before after. is.hidden before after) state
          c.in_ok-first.first.items turns),
      (
        c.in_ok-later.later.items,
        subst (λ (ls : List ℕ). AreLabelsOf survey.image [] ls c.in_ok-later.later.items) c.as_slice.ensures.value
            c.in_ok-later.ensures,
        c.in_ok-order.ensures.later
            ∙ (ap (λ (os : List Op). drop (length before)
            (order_of_turns survey.image [] survey.sight (c.in_ok-first.first.items ++ os))) later
            ∙ (on.cycle ∙ ap (λ (os : List Op). turns_from survey.image [] survey.sight (replayed_state survey.image os)
            c.in_ok-later.later.items) (sym c.in_ok-order.ensures.first))),
      ),
    )
