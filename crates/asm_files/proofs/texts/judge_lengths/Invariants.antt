-- the files so far are short enough
use Rattle.std.proofs.Common.{◌≡◌, drop, map}
use Rattle.asm_files.specs.Steps.{each_from}
use Rattle.asm_files.specs.Programs.{text_of}
use Rattle.asm_files.specs.Files.{length_step}
use Rattle.asm_files.proofs.texts.judge_lengths.Given as goal

abbrev pub invariant-loop-number : goal.invariant-loop-number
invariant-loop-number l =
    each_from length_step l.number (map text_of (drop l.number l.texts)) tt ≡ each_from length_step 0 (map text_of l.texts) tt
