use Rattle.std.proofs.Common.{◌∙◌}
use Rattle.cheri_model.specs.instructions.Names.{names_from, mnemonic_table}
use Rattle.cheri_model.proofs.NameLemmas.{one_name}
use Rattle.cheri_model.proofs.names.name_of.Goals as goal

pub returns : goal.returns
unfolding names_from mnemonic_table
returns c = c.name_in.ensures ∙ one_name c.args.mnemonic
