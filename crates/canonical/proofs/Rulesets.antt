-- Short names for `using(..)`.
use Rattle.canonical.proofs.round_trip.Back.{canon_reads_back}

pub ruleset back = (canon_reads_back)
