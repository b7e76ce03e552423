use Rattle.std.proofs.Common.{refl}
use Rattle.authorities.specs.Authorities.{memory_values}
use Rattle.alike_authority.proofs.ToldLemmas.{first_there, memory_told_is}
use Rattle.alike_authority.proofs.told.memory_told.Goals as goal

pub order_to-requires : goal.order_to-requires
order_to-requires c = record {
  there = first_there c.args.survey.now memory_values c.args.authority.now c.requires.held;
}

pub returns : goal.returns
returns c =
    memory_told_is c.args.survey.now c.len-count.ensures.survey c.args.authority.now c.in_ok-order.order.items
    (λ s there. c.in_ok-order.ensures s there) _ c.requires.held refl refl
