-- The three parts of a word round a store.
use Rattle.cheri_model.proofs.Granules.StoredBytes.{bytes_at-with_bytes_inside, bytes_at-with_bytes_below, bytes_at-with_bytes_above}
use Rattle.cheri_model.proofs.laws.memory.stored_bytes_read_back.Goals as goal

pub returns-clause-inside : goal.returns-clause-inside
returns-clause-inside c = bytes_at-with_bytes_inside

pub returns-clause-below : goal.returns-clause-below
returns-clause-below c = bytes_at-with_bytes_below

pub returns-clause-above : goal.returns-clause-above
returns-clause-above c = bytes_at-with_bytes_above
