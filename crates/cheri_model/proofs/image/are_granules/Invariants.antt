-- what is left of the list decides as the whole list does
use Rattle.std.proofs.Common.{◌≡◌, drop}
use Rattle.cheri_model.specs.runs.ImageRules.{are_granules}
use Rattle.cheri_model.specs.steps.Memory.{ram_base}
use Rattle.cheri_model.proofs.image.are_granules.Given as goal

abbrev pub invariant-loop-addr : goal.invariant-loop-addr
invariant-loop-addr l = are_granules l.ram l.from (drop l.addr-index l.granules) ≡ are_granules l.ram ram_base l.granules
