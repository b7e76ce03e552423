use Rattle.std.proofs.Common.{sym, ap, ◌∙◌}
use Rattle.asm_statements.specs.Marks.{string_kind}
use Rattle.asm_statements.proofs.LoopLemmas.{name_past, name_string, name_none, name_parts, not_string}
use Rattle.asm_statements.proofs.section_names.name_end.Goals as goal

pub returns-then-at-tokens-clause-is : goal.returns-then-at-tokens-clause-is
returns-then-at-tokens-clause-is c = name_past c.args.tokens.now c.args.at c.if-at-tokens.true

pub returns-in-String-clause-is : goal.returns-in-String-clause-is
returns-in-String-clause-is c = name_string c.args.tokens.now c.args.at _ c.if-at-tokens.false (ap string_kind c.in-String.is)

pub returns-then-not-is_part : goal.returns-then-not-is_part
returns-then-not-is_part c = record {
  is = name_none c.args.tokens.now c.args.at _ c.if-at-tokens.false (not_string _ c.in_default.not-String) (sym c.is_part.ensures ∙ c.if-not-is_part.true);
  room = c.requires;
}

pub returns : goal.returns
returns c = record {
  is = name_parts c.args.tokens.now c.args.at c.parts_after.result _ c.if-at-tokens.false (not_string _ c.in_default.not-String) (sym c.is_part.ensures ∙ c.if-not-is_part.false)
      c.parts_after.ensures.is;
  room = c.parts_after.ensures.room;
}
