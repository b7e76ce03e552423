-- the words so far are those of registers and of the first groups
use Rattle.std.proofs.Common.{◌≡◌, ◌++◌, map, string_bytes}
use Rattle.reduced_texts.specs.ReducedTexts.{register_words, words_to}
use Rattle.reduced_texts.proofs.words.left_out_words.Given as goal

abbrev pub invariant-loop-number : goal.invariant-loop-number
invariant-loop-number l =
    map string_bytes l.words.items ≡ register_words l.left_out.registers ++ words_to l.left_out.groups l.number
