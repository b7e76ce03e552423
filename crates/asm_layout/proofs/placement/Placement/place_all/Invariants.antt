-- the chunks so far are placed
use Rattle.std.proofs.Common.{◌≡◌, take}
use Rattle.asm_layout.specs.Placement.{all_placed, parts_of}
use Rattle.asm_layout.proofs.placement.Placement.place_all.Given as goal

abbrev pub invariant-loop-number : goal.invariant-loop-number
invariant-loop-number l =
    parts_of l.self ≡ all_placed l.kind l.chunks (parts_of l.initial.self) (take l.number-index l.order)
