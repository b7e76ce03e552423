-- what the statements so far make, and then the others
use Rattle.std.proofs.Common.{◌≡◌, drop, map}
use Rattle.asm_tokens.specs.Tokens.{token_parts}
use Rattle.asm_statements.specs.Statements.{statement_parts}
use Rattle.asm_files.specs.Steps.{each_from}
use Rattle.asm_files.specs.Sections.{sections_parts}
use Rattle.asm_files.specs.Files.{reading_parts, statement_step}
use Rattle.asm_files.proofs.files.Reading.put_all.Given as goal

abbrev pub invariant-loop-number : goal.invariant-loop-number
invariant-loop-number l =
    each_from (statement_step (sections_parts l.sections) (map token_parts l.tokens)) l.number
    (map statement_parts (drop l.number l.statements)) (reading_parts l.self)
    ≡ each_from (statement_step (sections_parts l.sections) (map token_parts l.tokens)) 0
    (map statement_parts l.statements) (reading_parts l.initial.self)
