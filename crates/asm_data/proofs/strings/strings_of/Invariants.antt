use Rattle.std.proofs.Common.{◌≡◌, ◌++◌, map, take}
use Rattle.std.specs.List.{flat_map}
use Rattle.asm_tokens.specs.Tokens.{token_parts}
use Rattle.asm_data.specs.Strings.{bytes_of}
use Rattle.asm_data.proofs.strings.strings_of.Given as goal

-- the strings so far
abbrev pub invariant-loop-operand : goal.invariant-loop-operand
invariant-loop-operand l =
    l.bytes.items ≡ flat_map (bytes_of (map token_parts l.tokens) l.ended) (take l.operand-index l.operands)
