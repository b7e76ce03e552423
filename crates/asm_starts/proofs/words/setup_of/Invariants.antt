-- the words that are left
use Rattle.std.proofs.Common.{◌≡◌, drop, map}
use Rattle.asm_requests.specs.Words.{word_parts}
use Rattle.asm_starts.specs.Values.{scene_parts}
use Rattle.asm_starts.specs.Words.{each_put, word_at, new_setup, setup_parts}
use Rattle.asm_starts.proofs.words.setup_of.Given as goal

abbrev pub invariant-loop-word : goal.invariant-loop-word
invariant-loop-word l =
    each_put (word_at (scene_parts l.scene) l.line) (map word_parts (drop l.word-index l.words)) (setup_parts l.setup)
    ≡ each_put (word_at (scene_parts l.scene) l.line) (map word_parts l.words) new_setup
