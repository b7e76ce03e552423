-- A name for `unfolding(..)` that opens what its own line names.
use Rattle.std.specs.Prelude.{Bool, List}
use Rattle.cheri_model.specs.declared.instr.Instr.{Instr}
use Rattle.cheri_model.specs.steps.Hart.{HartState}
use Rattle.own_granules.specs.Granules.{asks_store}
use Rattle.granule_states.specs.Graphs.{is_shared, owner_of}

unfoldable pub accesses : List Instr → HartState → Bool
unfolding asks_store is_shared owner_of
accesses program hart = asks_store program hart
