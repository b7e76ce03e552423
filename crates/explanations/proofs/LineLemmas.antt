-- What a map says of an instruction, in the list of all.
use Rattle.std.proofs.lemmas.List.{length-map, get_or-map}

pub ruleset sources = (length-map, get_or-map)
