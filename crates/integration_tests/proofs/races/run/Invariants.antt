-- the machine's ledgers are the new ones, and its image is the booted core's
use Rattle.integration_tests.proofs.races.run.Given as goal

abbrev pub ghosts-looped : goal.ghosts-looped
ghosts-looped g a = record { names = a.blanks; image = a.core.image }
