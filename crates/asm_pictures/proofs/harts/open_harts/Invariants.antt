-- the harts that are left
use Rattle.std.proofs.Common.{◌≡◌, drop, map}
use Rattle.asm_files.specs.Requests.{hart_request_parts}
use Rattle.asm_starts.specs.Values.{scene_parts}
use Rattle.asm_starts.specs.Words.{each_put}
use Rattle.asm_pictures.specs.Harts.{hart_put, harts_of, opened_parts}
use Rattle.asm_pictures.proofs.harts.open_harts.Given as goal

abbrev pub invariant-loop-request : goal.invariant-loop-request
invariant-loop-request l =
    each_put (hart_put (scene_parts l.scene)) (map hart_request_parts (drop l.request-index l.requests)) (opened_parts l.opened)
    ≡ harts_of (scene_parts l.scene) l.fn.memory_end (map hart_request_parts l.requests)
