use Rattle.std.proofs.Common.{◌≡◌, true, false, nat_lt, length, map, arith}
use Rattle.std.proofs.lemmas.Bool.Decides.{nat_tests}
use Rattle.std.proofs.lemmas.List.{length-map}
use Rattle.std.proofs.lemmas.Result.{err_from_is_err_and}
use Rattle.asm_tokens.specs.Tokens.{token_parts}
use Rattle.asm_drafts.proofs.LabelLemmas.{label_step, label_refused, labels_beyond, labels_end}
use Rattle.asm_drafts.proofs.draft.Draft.put_labels.Goals as goal

pub loop-left-preserved : goal.loop-left-preserved
loop-left-preserved c =
    let inside : nat_lt c.loop-left.at (length (map token_parts c.args.tokens.now)) ≡ true = rw length-map (grind (arith, nat_tests)) in
    label_step (map token_parts c.args.tokens.now) c.loop-left.at c.loop-left.left _ _ (omega arith) inside c.loop-left.invariant _ c.in_ok-put_label.ensures

pub returns-in_err-put_label : goal.returns-in_err-put_label
returns-in_err-put_label c =
    let inside : nat_lt c.loop-left.at (length (map token_parts c.args.tokens.now)) ≡ true = rw length-map (grind (arith, nat_tests)) in
    let p = err_from_is_err_and c.from_residual.result c.from_residual.ensures.1 in
    rw (p.1, p.2) (label_refused (map token_parts c.args.tokens.now) c.loop-left.at c.loop-left.left _ _ (omega arith) inside c.loop-left.invariant _ c.in_err-put_label.ensures)

pub returns-then-at-tokens : goal.returns-then-at-tokens
returns-then-at-tokens c =
    let outside : nat_lt c.loop-left.at (length (map token_parts c.args.tokens.now)) ≡ false = rw length-map (grind (arith, nat_tests)) in
    labels_beyond (map token_parts c.args.tokens.now) c.loop-left.at c.loop-left.left _ _ outside c.loop-left.invariant

pub returns : goal.returns
returns c = labels_end (map token_parts c.args.tokens.now) c.loop-left.at c.loop-left.left _ _ (omega arith) c.loop-left.invariant
