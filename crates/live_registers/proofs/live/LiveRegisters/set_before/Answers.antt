use Rattle.std.proofs.Common.{◌≡◌, ◌+◌, ◌*◌, ◌%◌, ◌^◌, ap, arith, ◌∙◌}
use Rattle.cheri_model.specs.steps.Actions.{address_of_target}
use Rattle.live_registers.specs.LiveSets.{set_at}
use Rattle.live_registers.proofs.live.LiveRegisters.set_before.Goals as goal

pub returns : goal.returns
unfolding address_of_target
returns c =
    let same : 268435456 + 4 * c.args.number ≡ (268435456 + 4 * c.args.number) % 2 ^ 64 = omega arith in
    c.set_at.ensures ∙ ap (set_at c.args.self.now) same
