-- the names so far, and then those of the other statements
use Rattle.std.proofs.Common.{◌≡◌, ◌++◌, drop, map}
use Rattle.asm_tokens.specs.Tokens.{token_parts}
use Rattle.asm_statements.specs.Statements.{statement_parts}
use Rattle.asm_files.specs.Sections.{bytes_of, names_in}
use Rattle.asm_files.proofs.sections.push_names.Given as goal

abbrev pub invariant-loop-statement : goal.invariant-loop-statement
invariant-loop-statement l =
    map bytes_of l.names.items ++ names_in (map token_parts l.tokens) (map statement_parts (drop l.statement-index l.statements))
    ≡ map bytes_of l.initial.names.items ++ names_in (map token_parts l.tokens) (map statement_parts l.statements)
