-- Names for `unfolding(..)` that open what their own line names.
use Rattle.std.specs.Prelude.{ℕ}
use Rattle.std.proofs.Common.{[]}
use Rattle.cheri_model.specs.declared.operation.Op.{Op}
use Rattle.sample_draws.specs.Priorities.{PriorityParts, first_priorities, after_changes, first_of, about_to_step, after_step, ended, swept, is_priorities}
use Rattle.sample_draws.specs.Draws.{DrawParts, draws_of_run, operation_word, swept_range, chosen_by, chosen, begun, done}
use Rattle.sample_draws.specs.Cycles.{same_value, same_hart}
use Rattle.sample_draws.specs.Drawings.{are_ranges, is_drawing}
use Rattle.sample_draws.specs.Words.{share, generator_of, next_word, drawn}
use Rattle.sample_draws.specs.Ranks.{least, first}

unfoldable pub priorities : PriorityParts → PriorityParts
unfolding first_priorities after_changes first_of about_to_step after_step ended swept is_priorities
priorities p = swept p

unfoldable pub draws : DrawParts → Op × DrawParts
unfolding draws_of_run operation_word swept_range chosen_by chosen begun done
draws d = chosen [] [] d

unfoldable pub cycles : ℕ
unfolding same_value same_hart
cycles = 0

unfoldable pub drawing : ℕ
unfolding are_ranges is_drawing
drawing = 0

unfoldable pub words : ℕ
unfolding share generator_of next_word drawn
words = 0

unfoldable pub ranks : ℕ
unfolding least first
ranks = 0
