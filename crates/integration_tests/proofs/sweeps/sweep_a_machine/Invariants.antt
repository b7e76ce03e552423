-- the machine's ledgers are the new ones, and its image is the core's
use Rattle.integration_tests.proofs.sweeps.sweep_a_machine.Given as goal

abbrev pub ghosts-swept : goal.ghosts-swept
ghosts-swept g a = record { names = a.blanks; image = a.core.image }
