use Rattle.std.proofs.Common.{◌≡◌, length, ap, arith}
use Rattle.hart_groups.proofs.GroupLemmas.{are_groups, few_harts, one_more}
use Rattle.hart_groups.proofs.groups.groups_of.Goals as goal

pub group_of-requires-clause-few : goal.group_of-requires-clause-few
group_of-requires-clause-few c = few_harts c.args.image.now _ c.granules-granules.ensures.formed c.harts-harts.ensures

pub bounds-groups-hart : goal.bounds-groups-hart
bounds-groups-hart c = omega (arith, few_harts c.args.image.now _ c.granules-granules.ensures.formed c.harts-harts.ensures)

pub loop-hart-preserved : goal.loop-hart-preserved
loop-hart-preserved c =
    let few = few_harts c.args.image.now _ c.granules-granules.ensures.formed c.harts-harts.ensures in
    let count : length c.harts-harts.result.now ≡ length c.args.image.now.harts = ap length c.harts-harts.ensures in
    one_more c.args.image.now.harts c.args.named.now c.loop-hart.groups c.loop-hart.hart c.group_of.result (omega arith)
    (rw c.harts-harts.ensures at c.group_of.ensures) c.loop-hart.invariant

pub returns : goal.returns
returns c =
    let count : length c.harts-harts.result.now ≡ length c.args.image.now.harts = ap length c.harts-harts.ensures in
    are_groups c.args.image.now.harts c.args.named.now c.loop-hart.groups
    (λ hart inside. c.loop-hart.invariant.below hart (omega arith))
    (λ hart past. c.loop-hart.invariant.above hart (omega arith))
