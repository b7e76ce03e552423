use Rattle.std.proofs.Common.{arith, ap, ◌∙◌}
use Rattle.cap_model.specs.results.Addresses.{address_of}
use Rattle.conditions.specs.Values.{is_between}
use Rattle.conditions.proofs.HoldingLemmas.{many_none, many_step, many_bound, many_all}
use Rattle.conditions.proofs.holding.how_many_between.Goals as goal

pub loop-hart-init : goal.loop-hart-init
loop-hart-init g c = (omega arith, many_none _)

pub one_more-count-requires : goal.one_more-count-requires
one_more-count-requires g c = omega (arith, c.loop-hart.invariant.0, c.loop-hart-test.true, c.loop-hart.auto.hart-end)

pub loop-hart-preserved : goal.loop-hart-preserved
loop-hart-preserved g c = (
  many_bound c.loop-hart.hart _ _ _ c.loop-hart.invariant.0 c.one_more-count.ensures,
  many_step _ c.loop-hart.hart _ _ _ c.loop-hart.invariant.1 (c.is_between.ensures ∙ ap (is_between c.args.first c.args.second) (c.addr-addr.ensures.integer ∙ ap address_of c.pcc.ensures)) c.one_more-count.ensures,
)

pub returns : goal.returns
returns g c =
    many_all _ c.loop-hart.hart _ _ c.loop-hart.invariant.1 (omega (arith, c.loop-hart-test.false, c.loop-hart.auto.hart-end, c.hart_count-hart-end.ensures))
