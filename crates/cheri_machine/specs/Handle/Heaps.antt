-- What a handle owns: the box that it has, if it has one. All allocators of the C library's heap
-- are one, so that a handle need not say by which it was made.
use Rattle.std.specs.Prelude.{Option, Some, None}
use Rattle.std.specs.Coded.{coded_option}
use Rattle.std.specs.Global.{Global}
use Rattle.std.specs.Box.Ownership.{box_owns}
use Rattle.std_heap.specs.contracts.GlobalAllocator.TheImpl.{ghosts}
use base.Fml.{Fml, ftrue}
use base.Stored.{Coded}
use denote.RawPtr.{Ptr}
use Rattle.cheri_machine.specs.contracts.machine.Machine.{the_row}

-- an allocator of that heap
abbrev pub any_heap : Global
any_heap = record { memory = record { seal = tt } }

abbrev pub held_owns : Ptr → Option the_row.Denot → Fml
held_owns at None = ftrue
held_owns at (Some machine) = box_owns (ghosts.dealloc_token any_heap) the_row at machine

abbrev pub held_coded : Coded (Option the_row.Denot)
held_coded = coded_option the_row.coded
