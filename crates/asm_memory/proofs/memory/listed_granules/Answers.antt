use Rattle.std.proofs.Common.{◌≡◌, ◌<◌, ◌≤◌, ◌/◌, ◌∙◌, sym, length, take, get_or, arith}
use Rattle.std.proofs.lemmas.List.{length-take, get_or-take}
use Rattle.cap_model.specs.values.CapValue.{raw}
use Rattle.cheri_model.specs.steps.Memory.{granule_at}
use Rattle.listings.proofs.GranuleLemmas.{listed_step, listed_end}
use Rattle.asm_memory.specs.Memory.{listed_below}
use Rattle.asm_memory.proofs.memory.listed_granules.Goals as goal

pub loop-number-preserved : goal.loop-number-preserved
unfolding granule_at
loop-number-preserved c =
    let below = take (c.args.size / 16) c.args.ram.now in
    let long = length-take (c.args.size / 16) c.args.ram.now in
    let room : c.loop-number.number < length below = omega (arith, long) in
    let same : get_or c.args.ram.now c.loop-number.number (raw 0) ≡ get_or below c.loop-number.number (raw 0) = sym (get_or-take (c.args.size / 16) c.args.ram.now c.loop-number.number (raw 0) (omega arith)) in
    listed_step _ _ _ _ c.loop-number.number _ below room (c.value.ensures.value ∙ c.granule.ensures.value ∙ same) (omega arith)
    c.in_ok-push_listed.ensures c.loop-number.invariant

pub returns : goal.returns
unfolding listed_below
returns c =
    let below = take (c.args.size / 16) c.args.ram.now in
    let long = length-take (c.args.size / 16) c.args.ram.now in
    let ended : length below ≤ c.loop-number.number = omega (arith, long) in
    listed_end _ _ _ c.loop-number.number below ended c.loop-number.invariant
