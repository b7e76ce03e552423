-- the texts so far, and then those that are left
use Rattle.std.proofs.Common.{◌≡◌, ◌++◌, ◌-◌, map}
use Rattle.asm_tokens.specs.Tokens.{token_parts}
use Rattle.asm_statements.specs.SectionNames.{texts_between}
use Rattle.asm_statements.proofs.section_names.push_texts.Given as goal

abbrev pub invariant-loop-at : goal.invariant-loop-at
invariant-loop-at l =
    l.out.items ++ texts_between (map token_parts l.tokens) l.at l.end ≡ l.fn.out.items ++ texts_between (map token_parts l.tokens) l.first l.end

abbrev pub decreases-loop-at : goal.decreases-loop-at
decreases-loop-at l = l.end - l.at
