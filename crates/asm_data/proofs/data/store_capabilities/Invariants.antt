use Rattle.std.proofs.Common.{◌≡◌, drop}
use Rattle.asm_late.specs.Late.{late_parts}
use Rattle.asm_files.specs.Steps.{each_from}
use Rattle.asm_data.specs.Data.{capability_stored}
use Rattle.asm_data.proofs.data.store_capabilities.Given as goal

-- the operands so far, and then the others
abbrev pub invariant-loop-item : goal.invariant-loop-item
invariant-loop-item l =
    each_from (capability_stored (late_parts l.site.late) l.site.file l.site.number) l.item (drop l.item l.operands) l.ram
    ≡ each_from (capability_stored (late_parts l.site.late) l.site.file l.site.number) 0 l.operands l.initial.ram
