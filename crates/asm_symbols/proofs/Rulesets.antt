-- Short names for `using(..)`.
use Rattle.std.proofs.lemmas.List.{length-map, map-append}

pub ruleset counts = (length-map, map-append)
