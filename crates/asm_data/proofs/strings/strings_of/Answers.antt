use Rattle.std.proofs.Common.{map, refl}
use Rattle.asm_tokens.specs.Tokens.{token_parts}
use Rattle.asm_data.specs.Strings.{bytes_of}
use Rattle.asm_data.proofs.StringLemmas.{strings_next}
use Rattle.asm_data.proofs.strings.strings_of.Goals as goal

pub loop-operand-preserved : goal.loop-operand-preserved
loop-operand-preserved c =
    strings_next (bytes_of (map token_parts c.args.tokens.now) c.args.ended) _ _ c.args.operands.now c.loop-operand.operand-index _ _ c.loop-operand-test.true refl
    c.in_ok-push_bytes.ensures c.loop-operand.invariant
