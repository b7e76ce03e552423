-- the machine's ledgers are the new ones, and its image is the core's
use Rattle.integration_tests.proofs.machines.play_once.Given as goal

abbrev pub ghosts-play : goal.ghosts-play
ghosts-play g a = record { names = a.blanks; image = a.core.image }
