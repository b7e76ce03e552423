-- the machine's ledgers and order are the new ones, and its image is the core's
use Rattle.integration_tests.proofs.races.watching.a_watch_looks_while_the_lock_is_held.Given as goal

abbrev pub ghosts-look_beside_the_lock : goal.ghosts-look_beside_the_lock
ghosts-look_beside_the_lock g a = record { names = a.blanks; image = a.core.image }
