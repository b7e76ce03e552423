use Rattle.cheri_caps.proofs.StructLemmas.{struct_read_back}
use Rattle.cheri_caps.proofs.laws.structs_mean_their_values.Goals as goal

pub returns : goal.returns
returns c = struct_read_back
