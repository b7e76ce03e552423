-- the requests so far, and then those of the other tokens
use Rattle.std.proofs.Common.{◌≡◌, drop, map}
use Rattle.asm_tokens.specs.Tokens.{token_parts}
use Rattle.asm_files.specs.Steps.{each_from}
use Rattle.asm_files.specs.Requests.{requests_parts, token_step}
use Rattle.asm_files.proofs.requests.Requests.put_tokens.Given as goal

abbrev pub invariant-loop-token : goal.invariant-loop-token
invariant-loop-token l =
    each_from (token_step l.number) l.token-index (map token_parts (drop l.token-index l.tokens)) (requests_parts l.self)
    ≡ each_from (token_step l.number) 0 (map token_parts l.tokens) (requests_parts l.initial.self)
