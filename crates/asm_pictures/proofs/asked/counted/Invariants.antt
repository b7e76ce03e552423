-- so many requests
use Rattle.std.proofs.Common.{◌≡◌, map, replicate}
use Rattle.asm_files.specs.Requests.{hart_request_parts}
use Rattle.asm_pictures.specs.Asked.{some_request}
use Rattle.asm_pictures.proofs.asked.counted.Given as goal

abbrev pub invariant-loop-number : goal.invariant-loop-number
invariant-loop-number l = map hart_request_parts l.harts.items ≡ replicate l._number some_request
