-- the statements so far, and then those that are left
use Rattle.std.proofs.Common.{◌≡◌, ◌-◌, ◌++◌, length, map}
use Rattle.asm_tokens.specs.Tokens.{token_parts}
use Rattle.asm_statements.specs.Statements.{statement_parts, statements_up_to, statements_of}
use Rattle.asm_statements.proofs.reading.read_statements.Given as goal

abbrev pub invariant-loop : goal.invariant-loop
invariant-loop l =
    map statement_parts l.statements.items
    ++ statements_up_to (length (map token_parts l.tokens) - l.counter) (map token_parts l.tokens) l.at
    ≡ statements_of (map token_parts l.tokens)
