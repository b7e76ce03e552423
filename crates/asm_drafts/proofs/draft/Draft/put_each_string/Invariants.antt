-- the operands so far, and then the others
use Rattle.std.proofs.Common.{◌≡◌, drop, map}
use Rattle.asm_tokens.specs.Tokens.{token_parts}
use Rattle.asm_drafts.specs.Drafts.{draft_parts, each_put}
use Rattle.asm_drafts.specs.Bytes.{string_at}
use Rattle.asm_drafts.proofs.draft.Draft.put_each_string.Given as goal

abbrev pub invariant-loop-operand : goal.invariant-loop-operand
invariant-loop-operand l =
    each_put (string_at (map token_parts l.tokens) l.at l.zeros) (drop l.operand-index l.operands) (draft_parts l.self)
    ≡ each_put (string_at (map token_parts l.tokens) l.at l.zeros) l.operands (draft_parts l.initial.self)
