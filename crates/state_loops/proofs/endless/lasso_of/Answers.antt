use Rattle.std.proofs.Common.{◌≡◌, ℕ, ◌≤◌, List, ◌++◌, length, drop, ap, sym, ◌∙◌, subst}
use Rattle.cheri_model.specs.declared.operation.Op.{Op}
use Rattle.explore_turns.specs.Orders.{AreOfHarts, order_of_turns}
use Rattle.schedules.specs.Schedules.{AreLabelsOf}
use Rattle.states.specs.Kept.{IsWitnessOrder}
use Rattle.states.proofs.KeptLemmas.{witness_order}
use Rattle.state_loops.proofs.CycleLemmas.{turns_go_on}
use Rattle.state_loops.proofs.EndlessLemmas.{kept_within, walk_means}
use Rattle.state_loops.proofs.endless.lasso_of.Goals as goal

pub witness_turns-requires : goal.witness_turns-requires
witness_turns-requires c = kept_within c.args.kept.now c.args.found.now.node (c.requires).0 (c.requires).1

pub operations-requires : goal.operations-requires
operations-requires c =
    rw c.as_slice.ensures.value (walk_means c.args.kept.now c.args.found.now c.requires)

pub orders_of-requires : goal.orders_of-requires
orders_of-requires c =
    let kept = c.args.kept.now in
    let s = (c.requires).0 in
    let later : c.as_slice-2.result.now ≡ c.in_ok-later.later.items = c.as_slice-2.ensures.value in
    let on = turns_go_on kept s c.in_ok-first.first.items c.in_ok-later.later.items c.as_slice.result.now
    (c.in_ok-first.ensures s (c.requires).1) c.in_ok-later.ensures in
    record {
      first = on.first_of;
      whole = subst (λ (os : List Op). AreOfHarts kept.image (c.in_ok-first.first.items ++ os)) (sym later) on.all_of;
      longer = subst (λ (os : List Op). length (order_of_turns kept.image kept.sweeps kept.sight c.in_ok-first.first.items)
          ≤ length (order_of_turns kept.image kept.sweeps kept.sight (c.in_ok-first.first.items ++ os))) (sym later) on.longer;
    }

pub returns : goal.returns
returns c state there =
    let kept = c.args.kept.now in
    let later : c.as_slice-2.result.now ≡ c.in_ok-later.later.items = c.as_slice-2.ensures.value in
    let turns = c.in_ok-first.ensures state there in
    let on = turns_go_on kept state c.in_ok-first.first.items c.in_ok-later.later.items c.as_slice.result.now
    turns c.in_ok-later.ensures in (
      subst (λ (os : List Op). IsWitnessOrder kept.image kept.sweeps kept.sight state os) (sym c.in_ok-order.ensures.first)
          (witness_order kept.image kept.sweeps kept.sight state c.in_ok-first.first.items turns),
      (
        c.in_ok-later.later.items,
        subst (λ (ls : List ℕ). AreLabelsOf kept.image kept.sweeps ls c.in_ok-later.later.items) c.as_slice.ensures.value
            c.in_ok-later.ensures,
        c.in_ok-order.ensures.later
            ∙ (ap (λ (os : List Op). drop (length (order_of_turns kept.image kept.sweeps kept.sight c.in_ok-first.first.items))
            (order_of_turns kept.image kept.sweeps kept.sight (c.in_ok-first.first.items ++ os))) later ∙ on.cycle),
      ),
    )
