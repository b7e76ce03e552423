-- Short names for `using(..)`.
use Rattle.command_line.proofs.NumberLemmas.{decimal_is, no_decimal}

pub ruleset numbers = (decimal_is, no_decimal)
