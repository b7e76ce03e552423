use Rattle.std.proofs.Common.{◌≡◌, ◌++◌, length}
use Rattle.asm_tokens.specs.Strings.{string_bytes, string_of}
use Rattle.asm_tokens.proofs.strings.push_string.Given as goal

-- the bytes so far, and then those of what is left
abbrev pub invariant-loop-rest : goal.invariant-loop-rest
invariant-loop-rest l = l.out.items ++ string_bytes 0 l.rest ≡ l.fn.out.items ++ string_of l.text

abbrev pub decreases-loop-rest : goal.decreases-loop-rest
decreases-loop-rest l = length l.rest
