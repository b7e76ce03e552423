-- Short names for `using(..)`.
use Rattle.facts.proofs.Numbers.{numbers}
use Rattle.facts.proofs.Built.{first_line}

pub ruleset losses = (numbers, first_line)
