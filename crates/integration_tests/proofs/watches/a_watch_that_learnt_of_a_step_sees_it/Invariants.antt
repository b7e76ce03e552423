-- the machine's ledgers and order are the new ones, and its image is the core's
use Rattle.integration_tests.proofs.watches.a_watch_that_learnt_of_a_step_sees_it.Given as goal

abbrev pub ghosts-watched : goal.ghosts-watched
ghosts-watched g a = record { names = a.blanks; image = a.core.image }
