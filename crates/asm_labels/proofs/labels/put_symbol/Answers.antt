use Rattle.std.proofs.Common.{◌∙◌, sym, ap, get_or, None}
use Rattle.asm_labels.specs.Labels.{with_label}
use Rattle.asm_labels.proofs.LabelLemmas.{point}
use Rattle.asm_labels.proofs.labels.put_symbol.Goals as goal

pub returns-in-Some : goal.returns-in-Some
returns-in-Some c = λ n h. ap (λ xs. get_or xs n None) c.put_label.ensures ∙ point c.args.firsts.now _ c.args.number n h
    ∙ ap (λ i. with_label i c.args.number n (get_or c.args.firsts.now n None)) (sym c.in-Some.is)
