use Rattle.std.proofs.Common.{false}
use Rattle.std.proofs.lemmas.Result.{IfOk-weaker}
use Rattle.std.specs.Prelude.{option_map}
use Rattle.asked_registers.proofs.HoldingLemmas.{holds_same}
use Rattle.forgotten_turns.proofs.SightLemmas.{condition_forgets}
use Rattle.states.specs.Searches.{search_of}
use Rattle.found_texts.proofs.FindLemmas.{unseen_by}
use Rattle.found_texts.proofs.ReducedLemmas.{holds_renamed, reduced_is}
use Rattle.found_texts.proofs.reducing.find_reduced.Goals as goal

pub seek-requires-clause-unseen : goal.seek-requires-clause-unseen
seek-requires-clause-unseen g c = rw c.in_ok-seen.ensures (unseen_by false c.args.condition.now)

pub seek-requires-clause-hidden : goal.seek-requires-clause-hidden
seek-requires-clause-hidden g c =
    rw c.in_ok-seen.ensures
    (condition_forgets c.args.search.now.image.now.program c.args.reduction.now.live c.args.condition.now c.requires.right c.requires.asked)

pub seek-requires-clause-passing : goal.seek-requires-clause-passing
seek-requires-clause-passing g c = λ state.
    holds_same c.args.search.now.image.now.program c.args.reduction.now.live c.requires.right state c.args.condition.now c.requires.asked

pub seek-requires-clause-renamed : goal.seek-requires-clause-renamed
seek-requires-clause-renamed g c = holds_renamed c.args.reduction.now.groups c.args.condition.now c.requires.named

pub returns-clause-says : goal.returns-clause-says
returns-clause-says g c =
    let sought = c.in_ok-sought.sought in
    IfOk-weaker c.sought_told.result _ _
    (λ told says. reduced_is (search_of c.args.search.now) c.args.condition.now c.args.reduction.now.live c.args.reduction.now.groups
    c.args.format
    (option_map (λ order. order.items) sought.order) sought.count sought.complete _ _ _
    (rw c.in_ok-seen.ensures at c.in_ok-sought.ensures.answer) says)
    (rw c.left_out.ensures at c.sought_told.ensures.says)
