-- the machine's ledgers and order are the new ones, and its image is the core's
use Rattle.integration_tests.proofs.watches.two_watches_look_at_once.Given as goal

abbrev pub ghosts-looked_twice : goal.ghosts-looked_twice
ghosts-looked_twice g a = record { names = a.blanks; image = a.core.image }
