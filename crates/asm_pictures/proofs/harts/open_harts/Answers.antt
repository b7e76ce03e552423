use Rattle.std.proofs.lemmas.Result.{err_from_is_err_and}
use Rattle.asm_files.specs.Requests.{hart_request_parts}
use Rattle.asm_starts.specs.Values.{scene_parts}
use Rattle.asm_starts.proofs.EachLemmas.{each_step, each_refused_or, each_end}
use Rattle.asm_pictures.specs.Harts.{hart_put}
use Rattle.asm_pictures.proofs.harts.open_harts.Goals as goal

pub loop-request-preserved : goal.loop-request-preserved
loop-request-preserved c =
    each_step hart_request_parts (hart_put (scene_parts c.args.scene)) c.args.requests.now c.loop-request.request-index _ _ _ _ c.loop-request-test.true c.request-item.is
    c.loop-request.invariant _ c.in_ok-put.ensures

pub returns-in_err-put : goal.returns-in_err-put
returns-in_err-put c =
    let p = err_from_is_err_and c.from_residual.result c.from_residual.ensures.1 in
    rw (p.1, p.2) (each_refused_or hart_request_parts (hart_put (scene_parts c.args.scene)) c.args.requests.now c.loop-request.request-index _ _ _ _ c.loop-request-test.true c.request-item.is
    c.loop-request.invariant _ _ c.in_err-put.ensures)

pub returns : goal.returns
returns c =
    each_end hart_request_parts (hart_put (scene_parts c.args.scene)) c.args.requests.now c.loop-request.request-index _ _ c.loop-request-test.false
    c.loop-request.invariant
