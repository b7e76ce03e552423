use Rattle.canonical.proofs.round_trip.Listed.{meant_is_listable}
use Rattle.canonical.proofs.round_trip.Whole.{canon_reads}
use Rattle.canonical.proofs.laws.canonical_listing_reads_back.Goals as goal

pub returns-clause-meant : goal.returns-clause-meant
returns-clause-meant c = λ text image e few. canon_reads image (meant_is_listable text image e) few

pub returns-clause-listable : goal.returns-clause-listable
returns-clause-listable c = λ text image e. meant_is_listable text image e

pub returns-clause-written : goal.returns-clause-written
returns-clause-written c = λ image h few. canon_reads image h few
