use Rattle.std.proofs.Common.{◌∙◌, sym, ap}
use Rattle.grammar.specs.Tokens.{tokens_of, token_at}
use Rattle.cheri_model.specs.instructions.Names.{is_instruction}
use Rattle.grammar.specs.Labels.{is_label_token, label_name}
use Rattle.grammar.specs.LabelMap.{named_in}
use Rattle.grammar.proofs.LabelLemmas.{instruction_defines, other_defines, label_defines, counts_one, counts_none}
use Rattle.grammar.proofs.labels.add_line.Goals as goal

pub returns-then-is_instruction-clause-count : goal.returns-then-is_instruction-clause-count
returns-then-is_instruction-clause-count c = counts_one (token_at (tokens_of c.args.line.now) 0) (ap is_instruction (sym c.first_token-first.ensures) ∙ sym c.is_instruction.ensures ∙ c.if-is_instruction.true)

pub returns-then-is_instruction-clause-labels : goal.returns-then-is_instruction-clause-labels
returns-then-is_instruction-clause-labels c = λ q.
    instruction_defines (named_in c.args.labels.now q) (token_at (tokens_of c.args.line.now) 0) q c.args.place (ap is_instruction (sym c.first_token-first.ensures) ∙ sym c.is_instruction.ensures ∙ c.if-is_instruction.true)

pub returns-then-not-labelled-clause-count : goal.returns-then-not-labelled-clause-count
returns-then-not-labelled-clause-count c = counts_none (token_at (tokens_of c.args.line.now) 0) (ap is_instruction (sym c.first_token-first.ensures) ∙ sym c.is_instruction.ensures ∙ c.if-is_instruction.false)

pub returns-then-not-labelled-clause-labels : goal.returns-then-not-labelled-clause-labels
returns-then-not-labelled-clause-labels c = λ q.
    other_defines (named_in c.args.labels.now q) (token_at (tokens_of c.args.line.now) 0) q c.args.place (ap is_instruction (sym c.first_token-first.ensures) ∙ sym c.is_instruction.ensures ∙ c.if-is_instruction.false)
    (ap is_label_token (sym c.first_token-first.ensures) ∙ sym c.is_label_token-labelled.ensures ∙ c.if-not-labelled.true)

pub returns-clause-count : goal.returns-clause-count
returns-clause-count c = counts_none (token_at (tokens_of c.args.line.now) 0) (ap is_instruction (sym c.first_token-first.ensures) ∙ sym c.is_instruction.ensures ∙ c.if-is_instruction.false)

pub returns-clause-labels : goal.returns-clause-labels
returns-clause-labels c = λ q.
    label_defines (named_in c.args.labels.now q) (token_at (tokens_of c.args.line.now) 0) q c.args.place _ (ap is_instruction (sym c.first_token-first.ensures) ∙ sym c.is_instruction.ensures ∙ c.if-is_instruction.false)
    (ap is_label_token (sym c.first_token-first.ensures) ∙ sym c.is_label_token-labelled.ensures ∙ c.if-not-labelled.false)
    (rw (c.label_name.ensures ∙ ap label_name c.first_token-first.ensures) at (c.in_ok-define.ensures q))
