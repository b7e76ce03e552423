-- the requests that are left
use Rattle.std.proofs.Common.{◌≡◌, drop, map}
use Rattle.asm_files.specs.Requests.{hart_request_parts}
use Rattle.asm_pictures.specs.Harts.{exits_in}
use Rattle.asm_pictures.proofs.harts.exits_in.Given as goal

abbrev pub invariant-loop-request : goal.invariant-loop-request
invariant-loop-request l =
    exits_in (map hart_request_parts (drop l.request-index l.requests)) ≡ exits_in (map hart_request_parts l.requests)
