-- Short names for `using(..)`.
use Rattle.condition_texts.proofs.PlaceLemmas.{before_point_some, before_point_none}

pub ruleset point = (before_point_some, before_point_none)
