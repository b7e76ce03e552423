use Rattle.std.proofs.Common.{◌≡◌, ◌++◌}
use Rattle.std.specs.List.{AllWithin}
use Rattle.facts.specs.EventFacts.{swept_in_harts}
use Rattle.facts.specs.SweepLaw.{HasRegisters}
use Rattle.facts.proofs.sweeping.add_harts.Given as goal

abbrev pub invariant-loop-i : goal.invariant-loop-i
invariant-loop-i l =
    (l.places.items ≡ l.initial.places.items ++ swept_in_harts l.lo l.hi l.harts l.i)
    × AllWithin HasRegisters l.harts 0 l.i
