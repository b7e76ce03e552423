-- what is not looked at yet decides
use Rattle.std.proofs.Common.{◌≡◌, drop}
use Rattle.sample_slices.specs.Numbers.{has_number}
use Rattle.sample_slices.proofs.numbers.Numbers.has.Given as goal

abbrev pub invariant-loop-span : goal.invariant-loop-span
invariant-loop-span l = has_number (drop l.span-index l.self.spans) l.number ≡ has_number l.self.spans l.number
