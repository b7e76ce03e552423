use Rattle.std.proofs.Common.{◌-◌, arith}
use Rattle.serde_json.proofs.Views.{view-Object}
use Rattle.following.specs.Following.{origins_now}
use Rattle.explained_page.proofs.StateLemmas.{register_put, registers_end}
use Rattle.explained_page.proofs.state.registers_json.Goals as goal

pub loop-register-preserved : goal.loop-register-preserved
loop-register-preserved c =
    register_put (origins_now c.args.follower.now) c.args.number c.args.hart.now c.loop-register.register c.new.result
    (32 - c.loop-register.register) _ _ _ _ (omega arith) c.new.ensures
    (rw c.register-value.ensures.value at c.in_ok-put_register.ensures) c.loop-register.invariant

pub returns : goal.returns
returns c =
    rw (
      view-Object,
      registers_end (origins_now c.args.follower.now) c.args.number c.args.hart.now c.loop-register.register
          (32 - c.loop-register.register) _ _ (omega arith) c.loop-register.invariant,
    )
