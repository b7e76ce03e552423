use Rattle.std.proofs.Common.{◌≡◌, List, length, arith, ap, refl, ◌∙◌}
use Rattle.std.proofs.lemmas.Result.{IfOk-weaker}
use Rattle.cheri_model.specs.runs.Machine.{MachineState, opening_state}
use Rattle.cheri_model.specs.runs.Replay.{replayed_state, state_after}
use Rattle.cheri_model.specs.steps.Hart.{HartState}
use Rattle.explore_turns.proofs.OrderLemmas.{slice_back}
use Rattle.explore_turns.proofs.TurnLemmas.{same_state}
use Rattle.found_texts.proofs.replaying.replayed.Goals as goal

pub returns : goal.returns
unfolding replayed_state
returns c =
    let opening : ◌≡◌ {A = MachineState} (record { harts = c.as_mut_slice.result.now; memory = c.in-Ok.ram })
    (opening_state c.args.image.now) =
    same_state c.as_mut_slice.result.now c.view-view.result.harts.now c.in-Ok.ram c.view-view.result.ram.now
    (c.as_mut_slice.ensures.value ∙ c.in_ok-harts.ensures.items) c.in-Ok.ensures.same
    ∙ (c.view-view.ensures.state ∙ c.in_ok-core.ensures) in
    let whole : length c.as_mut_slice.result.now ≡ length c.in_ok-harts.harts.items =
    ap (λ (l : List HartState). length l) c.as_mut_slice.ensures.value in
    let taken : length c.take_steps.new.harts ≡ length c.as_mut_slice.result.now = c.take_steps.auto.harts in
    let count : c.in_ok-harts.harts.len ≡ length c.take_steps.new.harts =
    omega (arith, c.in_ok-harts.harts.ok.0, whole, taken) in
    let back = slice_back c.in_ok-harts.harts.len c.take_steps.new.harts c.in_ok-harts.harts.items count in
    IfOk-weaker c.new.result _ _
    (λ state is. is ∙ (same_state c.as_slice.result.now c.take_steps.new.harts c.take_steps.new.ram c.take_steps.new.ram
    (c.as_slice.ensures.value ∙ back) refl
    ∙ (c.take_steps.ensures ∙ ap (λ (s : MachineState). state_after c.args.image.now s c.args.order.now) opening))) c.new.ensures
