-- the machine's ledgers and order are the new ones, and its image is the core's
use Rattle.integration_tests.proofs.watches.there_are_eight_places.Given as goal

abbrev pub ghosts-watched_by_eight : goal.ghosts-watched_by_eight
ghosts-watched_by_eight g a = record { names = a.blanks; image = a.core.image }
