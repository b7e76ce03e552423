use Rattle.authorities.specs.Authorities.{memory_values}
use Rattle.forgotten_states.specs.Surveys.{at}
use Rattle.alike_authority.specs.AlikeAuthority.{IsMemoryTold}
use Rattle.alike_authority.proofs.ToldLemmas.{held_at, told_step}
use Rattle.alike_authority.proofs.told.memory_list_told.Goals as goal

pub memory_told-requires : goal.memory_told-requires
memory_told-requires c = record {
  held = held_at (at c.args.survey.now) memory_values c.args.list.now c.loop-authority.authority-index _ c.requires.greatest
      c.loop-authority-test.true;
}

pub loop-authority-preserved : goal.loop-authority-preserved
loop-authority-preserved c =
    told_step (IsMemoryTold c.args.survey.now) c.args.list.now c.loop-authority.authority-index _
    c.loop-authority.told.items _ c.in_ok-memory_told.field-0 c.loop-authority-test.true c.in_ok-push.ensures.items
    c.loop-authority.invariant c.in_ok-memory_told.ensures
