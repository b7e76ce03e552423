-- the machine's ledgers are the new ones, and its image is the core's
use Rattle.integration_tests.proofs.machines.compare_with_the_run.Given as goal

abbrev pub ghosts-stepped : goal.ghosts-stepped
ghosts-stepped g a = record { names = a.blanks; image = a.core.image }
