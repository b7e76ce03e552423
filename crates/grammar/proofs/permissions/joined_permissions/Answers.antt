use Rattle.std.proofs.Common.{◌∙◌, ◌==◌, ap, fold, Some, rules, tests}
use Rattle.std.proofs.lemmas.Iterator.Consumers.{fold_from_yields_List}
use Rattle.std.proofs.lemmas.Iterator.Splits.{YieldsList-from_slice_split}
use Rattle.grammar.specs.Permissions.{with_named, joined_names, set_of}
use Rattle.grammar.proofs.permissions.joined_permissions.Goals as goal

pub returns : goal.returns
returns c =
    let names = joined_names c.args.token.now in
    fold_from_yields_List _ with_named (Some c.empty.result) c.fold.result c.fold.ensures.ran
    (YieldsList-from_slice_split _ (λ b. b == 0x2B) c.args.token.now c.split.ensures.rest c.split.ensures.done c.split.ensures.closure (λ x b q k. search (rules, tests)))
    (λ a x b q k. search (rules, tests))
    ∙ ap (λ bits. fold with_named (Some (set_of bits)) names) (c.empty.ensures tt)
