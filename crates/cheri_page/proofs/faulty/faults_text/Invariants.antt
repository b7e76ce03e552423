-- the lines of the faults so far
use Rattle.std.proofs.Common.{◌≡◌, take}
use Rattle.std.specs.Prelude.{string_bytes}
use Rattle.std.specs.List.{flat_map}
use Rattle.cheri_page.specs.Faulty.{fault_line}
use Rattle.cheri_page.proofs.faulty.faults_text.Given as goal

abbrev pub invariant-loop-fault : goal.invariant-loop-fault
invariant-loop-fault l = string_bytes l.text ≡ flat_map fault_line (take l.fault-index l.fault-items)
