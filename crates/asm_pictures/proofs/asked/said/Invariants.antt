-- the requests so far, and then those of the texts that are left
use Rattle.std.proofs.Common.{◌≡◌, ◌+◌, ◌++◌, drop, map}
use Rattle.asm_files.specs.Programs.{text_of}
use Rattle.asm_files.specs.Requests.{hart_request_parts}
use Rattle.asm_pictures.specs.Asked.{said_from}
use Rattle.asm_pictures.proofs.asked.said.Given as goal

abbrev pub invariant-loop-place : goal.invariant-loop-place
invariant-loop-place l =
    map hart_request_parts l.harts.items ++ said_from (l.place + 1) (map text_of (drop l.place l.texts)) ≡ said_from 1 (map text_of l.texts)
