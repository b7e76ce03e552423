-- the requests so far, and then those of the other files
use Rattle.std.proofs.Common.{◌≡◌, drop, map}
use Rattle.asm_files.specs.Steps.{each_from}
use Rattle.asm_files.specs.Requests.{no_requests, requests_parts}
use Rattle.asm_files.specs.Programs.{file_parts}
use Rattle.asm_files.specs.Files.{request_step}
use Rattle.asm_files.proofs.requests.read_requests.Given as goal

abbrev pub invariant-loop-number : goal.invariant-loop-number
invariant-loop-number l =
    each_from request_step l.number (map file_parts (drop l.number l.files)) (requests_parts l.requests)
    ≡ each_from request_step 0 (map file_parts l.files) no_requests
