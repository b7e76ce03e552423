use Rattle.std.proofs.Common.{◌≡◌, ◌≤◌, ◌<◌, ℕ, List, length, arith, ap, sym, ◌∙◌}
use Rattle.std.proofs.lemmas.List.Edits.{map_over_more}
use Rattle.cheri_model.specs.declared.instr.Instr.{Instr}
use Rattle.cheri_model.specs.steps.Hart.{HartState}
use Rattle.cores.proofs.SweepLemmas.{hart_ahead}
use Rattle.explore_sights.specs.Sights.{hides}
use Rattle.explore_turns.specs.QuietSteps.{rest}
use Rattle.explore_turns.specs.Orders.{quiet_count}
use Rattle.explore_turns.specs.Turns.{resting}
use Rattle.explore_turns.proofs.ImageSizes.{harts_few}
use Rattle.explore_turns.proofs.OrderLemmas.{order_on, order_end}
use Rattle.explore_turns.proofs.turn_orders.settle.Goals as goal

pub overflow_cast-number : goal.overflow_cast-number
overflow_cast-number c =
    let few = harts_few c.args.image.now c.granules-granules.ensures.formed in
    let same = c.requires in
    let kept : length c.loop-number.harts ≡ length c.args.harts.now = c.loop-number.auto.harts in
    let below = c.loop-number-test.true in
    omega (arith, few, same, kept, below)

pub loop-number-preserved : goal.loop-number-preserved
loop-number-preserved c =
    let a = c.args in
    let n = c.loop-number.number in
    let item = c.index-harts-number.result in
    let rests = resting a.image.now a.sweeps.now a.sight.now in
    let kept : length c.loop-number.harts ≡ length a.harts.now = c.loop-number.auto.harts in
    let low : n < length a.harts.now = omega (arith, kept, c.loop-number-test.true) in
    let new : c.rest.result ≡ rests item =
    c.rest.ensures.value ∙ ap (λ (p : List Instr). rest p a.sweeps.now (hides a.sight.now) 1000 item) c.program-in-loop-number.ensures in
    let more = map_over_more rests a.harts.now c.loop-number.harts n item low c.loop-number.invariant.harts c.index-harts-number.is in
    let here = hart_ahead rests a.harts.now c.loop-number.harts n item low c.loop-number.invariant.harts c.index-harts-number.is in
    record {
      same_ram = c.rest.ensures.ram ∙ (c.quiet_count-count.ensures.ram ∙ c.loop-number.invariant.same_ram);
      harts = rw new more;
      order = order_on a.image.now a.sweeps.now a.sight.now c.loop-number.order.items c.push_steps.new.order.items
          _ n c.quiet_count-count.result a.harts.now item low here c.loop-number.invariant.order
          (c.quiet_count-count.ensures.value
          ∙ ap (λ (p : List Instr). quiet_count p a.sweeps.now (hides a.sight.now) 1000 item) c.program.ensures)
          c.in_ok-push_steps.ensures;
    }

pub returns-clause-order : goal.returns-clause-order
returns-clause-order c =
    let a = c.args in
    let kept : length c.loop-number.harts ≡ length a.harts.now = c.loop-number.auto.harts in
    let past : length a.harts.now ≤ c.loop-number.number = omega (arith, kept, c.loop-number-test.false) in
    order_end a.image.now a.sweeps.now a.sight.now c.loop-number.order.items _ c.loop-number.number a.harts.now past
    c.loop-number.invariant.order
