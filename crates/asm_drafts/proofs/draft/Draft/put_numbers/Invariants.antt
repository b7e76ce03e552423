-- the operands so far, and then the others
use Rattle.std.proofs.Common.{◌≡◌, drop, map}
use Rattle.asm_tokens.specs.Tokens.{token_parts}
use Rattle.asm_drafts.specs.Drafts.{draft_parts, each_put}
use Rattle.asm_drafts.specs.Bytes.{number_at}
use Rattle.asm_drafts.proofs.draft.Draft.put_numbers.Given as goal

abbrev pub invariant-loop-operand : goal.invariant-loop-operand
invariant-loop-operand l =
    each_put (number_at (map token_parts l.tokens) l.at l.width) (drop l._operand-index l.operands) (draft_parts l.self)
    ≡ each_put (number_at (map token_parts l.tokens) l.at l.width) l.operands (draft_parts l.initial.self)
