-- Drafts with one file or instruction more.
use Rattle.std.proofs.Common.{◌≡◌, ℕ, ◌<◌, List, [], length, map, get_or}
use Rattle.std.proofs.lemmas.List.{map-append, length-map, get_or-map}

pub ruleset drafts = (map-append, length-map, get_or-map)
