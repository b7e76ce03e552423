-- the faults so far and those that are found from here on are all faults
use Rattle.std.proofs.Common.{◌≡◌, ◌++◌, ◌-◌}
use Rattle.grammar.specs.Tokens.{texts}
use Rattle.listing_faults.specs.Faults.{faults_from, faults_of}
use Rattle.listing_faults.proofs.faults.listing_faults.Given as goal

abbrev pub invariant-loop : goal.invariant-loop
invariant-loop l = l.faults.items ++ faults_from (100 - l.counter) l.last (texts l.lines.items) ≡ faults_of l.text
