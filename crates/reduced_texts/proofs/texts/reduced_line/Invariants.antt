-- the words so far are written
use Rattle.std.proofs.Common.{◌≡◌, ◌++◌, drop, map, string_bytes}
use Rattle.reduced_texts.specs.ReducedTexts.{after_blanks}
use Rattle.reduced_texts.proofs.texts.reduced_line.Given as goal

abbrev pub invariant-loop-word : goal.invariant-loop-word
invariant-loop-word l =
    string_bytes l.line ++ after_blanks (map string_bytes (drop l.word-index l.word-items))
    ≡ string_bytes l.initial.line ++ after_blanks (map string_bytes l.word-items)
