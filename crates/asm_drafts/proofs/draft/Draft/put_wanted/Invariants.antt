-- the operands so far, and then the others
use Rattle.std.proofs.Common.{◌≡◌, drop, map}
use Rattle.asm_tokens.specs.Tokens.{token_parts}
use Rattle.asm_drafts.specs.Drafts.{draft_parts, each_put}
use Rattle.asm_drafts.specs.Names.{want_put}
use Rattle.asm_drafts.proofs.draft.Draft.put_wanted.Given as goal

abbrev pub invariant-loop-operand : goal.invariant-loop-operand
invariant-loop-operand l =
    each_put (want_put (map token_parts l.tokens)) (drop l.operand-index l.operands) (draft_parts l.self)
    ≡ each_put (want_put (map token_parts l.tokens)) l.operands (draft_parts l.initial.self)
