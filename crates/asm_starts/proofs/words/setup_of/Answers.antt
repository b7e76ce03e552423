use Rattle.std.proofs.Common.{sym, refl}
use Rattle.std.proofs.lemmas.Result.{err_from_is_err_and}
use Rattle.asm_requests.specs.Words.{word_parts}
use Rattle.asm_starts.specs.Values.{scene_parts}
use Rattle.asm_starts.specs.Words.{word_at}
use Rattle.asm_starts.proofs.EachLemmas.{each_step, each_refused, each_end}
use Rattle.asm_starts.proofs.words.setup_of.Goals as goal

pub loop-word-preserved : goal.loop-word-preserved
loop-word-preserved c =
    each_step word_parts (word_at (scene_parts c.args.scene) c.args.line) c.args.words.now c.loop-word.word-index _ _ _ _ c.loop-word-test.true refl
    c.loop-word.invariant _ (sym c.in_ok-setup.ensures)

pub returns-in_err-setup : goal.returns-in_err-setup
returns-in_err-setup c =
    let p = err_from_is_err_and c.from_residual.result c.from_residual.ensures.1 in
    rw (p.1, p.2) (sym (each_refused word_parts (word_at (scene_parts c.args.scene) c.args.line) c.args.words.now c.loop-word.word-index _ _ _ _ c.loop-word-test.true refl
    c.loop-word.invariant _ (sym c.in_err-setup.ensures)))

pub returns : goal.returns
returns c =
    sym (each_end word_parts (word_at (scene_parts c.args.scene) c.args.line) c.args.words.now c.loop-word.word-index _ _ c.loop-word-test.false c.loop-word.invariant)
