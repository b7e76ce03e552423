-- the machine's ledgers are the new ones, and its image is the booted core's
use Rattle.harts.proofs.races.boot_and_race.Given as goal

abbrev pub ghosts-race_harts : goal.ghosts-race_harts
ghosts-race_harts g a = record { names = a.blanks; image = a.core.image }
