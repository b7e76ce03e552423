use Rattle.asm_expansions.proofs.counts.+count_levels.Given as goal

abbrev pub decreases-count_levels : goal.decreases-count_levels
decreases-count_levels l = l.levels
