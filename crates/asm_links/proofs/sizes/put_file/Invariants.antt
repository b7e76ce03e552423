-- the statements so far, and then the others
use Rattle.std.proofs.Common.{◌≡◌, drop, map}
use Rattle.asm_tokens.specs.Tokens.{token_parts}
use Rattle.asm_statements.specs.Statements.{statement_parts}
use Rattle.asm_symbols.specs.Names.{names_of}
use Rattle.asm_links.specs.Sizes.{sizes_from}
use Rattle.asm_links.proofs.sizes.put_file.Given as goal

abbrev pub invariant-loop-number : goal.invariant-loop-number
invariant-loop-number l =
    sizes_from (names_of l.own) (map token_parts l.tokens) l.number (map statement_parts (drop l.number l.file.statements.items)) l.sizes.items
    ≡ sizes_from (names_of l.own) (map token_parts l.tokens) 0 (map statement_parts l.file.statements.items) l.initial.sizes.items
