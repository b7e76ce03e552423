-- The granule of the store has a word without a tag.
use Rattle.std.proofs.Common.{ap}
use Rattle.cap_model.specs.values.CapValue.{tag_of}
use Rattle.cheri_model.proofs.Granules.LoadsAfterStores.{granule_at-store_data, granule_at-store_data_other}
use Rattle.cheri_model.proofs.laws.memory.data_stores_clear_one_tag.Goals as goal

pub returns-clause-cleared : goal.returns-clause-cleared
returns-clause-cleared c = λ granules addr number width h. ap tag_of (granule_at-store_data granules addr number width h)

pub returns-clause-others : goal.returns-clause-others
returns-clause-others c = granule_at-store_data_other
