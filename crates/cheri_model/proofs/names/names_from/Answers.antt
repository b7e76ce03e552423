use Rattle.std.proofs.Common.{◌≡◌, false, sym, arith}
use Rattle.std.proofs.lemmas.Bool.Decides.{nat_tests}
use Rattle.cheri_model.proofs.NameLemmas.{is_initial, no_names}
use Rattle.cheri_model.proofs.names.names_from.Goals as goal

pub returns-in_default : goal.returns-in_default
returns-in_default c = let other : is_initial c.args.letter ≡ false = grind (arith, nat_tests, c.in_default) in sym (no_names c.args.letter other)
