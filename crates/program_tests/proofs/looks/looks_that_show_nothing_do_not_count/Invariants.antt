-- the machine's ledgers are the new ones, and its image is the core's
use Rattle.program_tests.proofs.looks.looks_that_show_nothing_do_not_count.Given as goal

abbrev pub ghosts-count_looks : goal.ghosts-count_looks
ghosts-count_looks g a = record { names = a.blanks; image = a.core.image }
