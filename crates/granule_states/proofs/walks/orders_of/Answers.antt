use Rattle.std.proofs.Common.{◌≡◌, ◌<◌, ap, sym, ◌∙◌, subst, length}
use Rattle.std.specs.Prelude.{Some}
use Rattle.std.proofs.lemmas.Result.{IfOk-weaker}
use Rattle.cheri_model.specs.runs.Image.{ImageParts}
use Rattle.cheri_model.specs.runs.Machine.{opening_state}
use Rattle.states.proofs.NodeLemmas.{is_some}
use Rattle.granule_states.specs.Graphs.{state_in}
use Rattle.granule_states.proofs.OrderLemmas.{begun_order, later_alike, walks_alike}
use Rattle.granule_states.proofs.OwnedLemmas.{AreAlike}
use Rattle.granule_states.proofs.walks.orders_of.Goals as goal

pub walk-requires-clause-meant : goal.walk-requires-clause-meant
walk-requires-clause-meant c =
    is_some (state_in c.in_ok-again.again c.as_mut_slice.result.now) _
    (ap (state_in c.in_ok-again.again) c.as_mut_slice.ensures.value ∙ c.in_ok-again.ensures.row)

pub walk-requires-clause-first : goal.walk-requires-clause-first
walk-requires-clause-first c i hart at =
    subst (λ (j : ImageParts). hart < length j.harts)
    (sym (c.in_ok-again.ensures.image ∙ c.image-2.ensures)) (c.requires.first i hart at)

pub walk-requires-clause-later : goal.walk-requires-clause-later
walk-requires-clause-later c i hart at =
    subst (λ (j : ImageParts). hart < length j.harts)
    (sym (c.in_ok-again.ensures.image ∙ c.image-2.ensures)) (c.requires.later i hart at)

pub returns-clause-first : goal.returns-clause-first
returns-clause-first c =
    let g = c.args.graph.now in
    let h = c.in_ok-again.again in
    let alike : AreAlike g h = record {
      image = c.in_ok-again.ensures.image ∙ c.image-2.ensures;
      sight = c.in_ok-again.ensures.sight ∙ c.sight.ensures;
      shared = c.in_ok-again.ensures.shared ∙ (c.in_ok-shared.ensures.items ∙ c.shared.ensures);
    } in
    let here : state_in h c.as_mut_slice.result.now ≡ Some (opening_state h.graph.image) =
    ap (state_in h) c.as_mut_slice.ensures.value ∙ (c.in_ok-again.ensures.row
    ∙ ap (λ (i : ImageParts). Some (opening_state i)) (sym c.in_ok-again.ensures.image)) in
    IfOk-weaker c.walk.result _ _
    (λ orders told. begun_order g h alike c.args.first.now orders.0.items (told (opening_state h.graph.image) here))
    c.walk.ensures.first

pub returns-clause-later : goal.returns-clause-later
returns-clause-later c =
    let g = c.args.graph.now in
    let h = c.in_ok-again.again in
    let alike : AreAlike g h = record {
      image = c.in_ok-again.ensures.image ∙ c.image-2.ensures;
      sight = c.in_ok-again.ensures.sight ∙ c.sight.ensures;
      shared = c.in_ok-again.ensures.shared ∙ (c.in_ok-shared.ensures.items ∙ c.shared.ensures);
    } in
    let here : state_in h c.as_mut_slice.result.now ≡ Some (opening_state h.graph.image) =
    ap (state_in h) c.as_mut_slice.ensures.value ∙ (c.in_ok-again.ensures.row
    ∙ ap (λ (i : ImageParts). Some (opening_state i)) (sym c.in_ok-again.ensures.image)) in
    IfOk-weaker c.walk.result _ _
    (λ orders told s walk.
    later_alike g h alike c.args.later.now orders.1.items s (told (opening_state h.graph.image) s here
    (walks_alike g h alike c.args.first.now s walk)))
    c.walk.ensures.later
