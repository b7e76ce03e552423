-- The start is the address less a remainder.
use Rattle.cap_model.proofs.Bounds.RegionStarts.{region_start_greatest, regions_in_2_66}
use Rattle.cap_model.proofs.laws.words.region_start_is_greatest.Goals as goal

pub returns-clause-greatest : goal.returns-clause-greatest
returns-clause-greatest c = region_start_greatest

pub returns-clause-whole_regions : goal.returns-clause-whole_regions
returns-clause-whole_regions c = regions_in_2_66
