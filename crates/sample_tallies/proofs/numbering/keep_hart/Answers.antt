use Rattle.std.proofs.Common.{inr}
use Rattle.sample_tallies.specs.declared.numbering.KnownHart.{KnownHart}
use Rattle.sample_tallies.proofs.NumberingLemmas.{adds_push, adds_set}
use Rattle.sample_tallies.proofs.numbering.keep_hart.Goals as goal

pub loop-harts-init : goal.loop-harts-init
loop-harts-init c = λ k x at. inr (k, at)

pub loop-harts-preserved : goal.loop-harts-preserved
loop-harts-preserved c =
    let known : KnownHart = record { number = c.args.number; hart = c.args.hart.now } in
    adds_push c.args.harts.now.items c.loop-harts.harts.items c.push.new.self.items known c.in_ok-push.ensures.items
    c.loop-harts.invariant

pub returns : goal.returns
returns c =
    let known : KnownHart = record { number = c.args.number; hart = c.args.hart.now } in
    adds_set c.args.harts.now.items c.loop-harts.harts.items c.args.place known c.loop-harts.invariant
