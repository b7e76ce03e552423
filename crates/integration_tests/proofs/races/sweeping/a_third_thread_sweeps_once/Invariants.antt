-- the machine's ledgers are the new ones, and its image is the core's
use Rattle.integration_tests.proofs.races.sweeping.a_third_thread_sweeps_once.Given as goal

abbrev pub ghosts-swept_race : goal.ghosts-swept_race
ghosts-swept_race g a = record { names = a.blanks; image = a.core.image }
