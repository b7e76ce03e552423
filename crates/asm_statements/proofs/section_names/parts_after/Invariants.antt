-- the parts so far, and then those that follow the last of them
use Rattle.std.proofs.Common.{◌≡◌, ◌+◌, ◌≤◌, ◌-◌, drop, length, map}
use Rattle.asm_tokens.specs.Tokens.{token_parts}
use Rattle.asm_statements.specs.SectionNames.{parts_after}
use Rattle.asm_statements.proofs.section_names.parts_after.Given as goal

abbrev pub invariant-loop-at : goal.invariant-loop-at
invariant-loop-at l = record {
  parts : (l.at - l.start) + parts_after (token_parts l.before) (drop l.at (map token_parts l.tokens)) ≡ parts_after (token_parts l.fn.first) (drop l.start (map token_parts l.tokens));
  room : l.at ≤ length l.tokens;
  from : l.start ≤ l.at;
}

abbrev pub decreases-loop-at : goal.decreases-loop-at
decreases-loop-at l = length l.tokens - l.at
