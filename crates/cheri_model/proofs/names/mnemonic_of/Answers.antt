use Rattle.std.proofs.Common.{◌∙◌, refl, ap}
use Rattle.cheri_model.specs.instructions.Tables.{found_at}
use Rattle.cheri_model.proofs.NameLemmas.{found_by_letter, nothing_named}
use Rattle.cheri_model.proofs.names.mnemonic_of.Goals as goal

pub returns-in-empty : goal.returns-in-empty
returns-in-empty c = nothing_named c.args.token.now c.in-empty.len_below

pub returns-in-len1-up : goal.returns-in-len1-up
returns-in-len1-up c =
    c.found_at.ensures ∙ ap (λ rows. found_at rows c.args.token.now) c.names_from.ensures ∙ found_by_letter _ c.args.token.now refl
