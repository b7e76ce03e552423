use Rattle.std.proofs.Common.{◌≡◌, ◌++◌, map, take}
use Rattle.std.specs.Char.{to_ascii_lowercase}
use Rattle.asm_mnemonics.proofs.mnemonics.push_small.Given as goal

-- the small letters of the name so far
abbrev pub invariant-loop-byte : goal.invariant-loop-byte
invariant-loop-byte l = l.out.items ≡ l.fn.out.items ++ map to_ascii_lowercase (take l.byte-index l.name)
