use Rattle.asm_expansions.proofs.constants.+write_levels.Given as goal

abbrev pub decreases-write_levels : goal.decreases-write_levels
decreases-write_levels l = l.levels
