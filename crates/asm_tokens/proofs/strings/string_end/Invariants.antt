use Rattle.std.proofs.Common.{◌≡◌, ◌≤◌, ◌-◌, length}
use Rattle.asm_tokens.specs.Strings.{string_end, further}
use Rattle.asm_tokens.proofs.strings.string_end.Given as goal

-- the end of what is left is the end of the text, further on
abbrev pub invariant-loop-rest : goal.invariant-loop-rest
invariant-loop-rest l = record {
  within : length l.rest ≤ length l.text;
  end : further (length l.text - length l.rest) (string_end 0 l.rest) ≡ string_end 0 l.text;
}

abbrev pub decreases-loop-rest : goal.decreases-loop-rest
decreases-loop-rest l = length l.rest
