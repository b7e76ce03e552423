-- the letters that are left, after those so far
use Rattle.std.proofs.Common.{◌≡◌, drop}
use Rattle.asm_statements.specs.Flags.{flags_from, flags_of}
use Rattle.asm_statements.proofs.flags.flags_of.Given as goal

abbrev pub invariant-loop-letter : goal.invariant-loop-letter
invariant-loop-letter l = flags_from l.flags (drop l.letter-index l.letters) ≡ flags_of l.letters
