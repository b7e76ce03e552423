-- Each share is drawn from a ledger that is whole, and its hart's steps are counted.
use Rattle.std.proofs.Common.{◌≡◌, ◌<◌, ◌++◌, ◌∷◌, [], arith}
use Rattle.std.proofs.lemmas.Grind.{common_steps}
use Rattle.shared_machine.specs.Shares.{share_at}
use Rattle.shared_machine.proofs.ShareLemmas.{opening_none, opening_next}
use Rattle.shared_machine.proofs.machines.draw_shares.Goals as goal

pub loop-hart-init : goal.loop-hart-init
loop-hart-init g c = rw (c.requires.books, c.requires.parts, c.requires.amounts, c.in_ok-shares.ensures.items) (opening_none c.args.events.now)

pub loop-hart-preserved : goal.loop-hart-preserved
loop-hart-preserved g c =
    let drawn = c.draw_share-share.ensures in
    let room : c.loop-hart.hart < 8 = omega (arith, c.requires.harts.0) in
    let made : c.push.new.self.items ≡ c.loop-hart.shares.items ++ share_at c.args.events.now c.loop-hart.hart ∷ [] = grind (arith, common_steps) in
    opening_next _ _ _ _ c.args.events.now c.loop-hart.hart _ _ _ _ room c.loop-hart.invariant drawn.books drawn.parts drawn.amounts made
